use Rattle.std.proofs.Common.{◌≡◌, ◌<◌, ◌≤◌, ◌+◌, ◌*◌, sym, ◌∙◌, ap, arith, ℕ, true, false}
use Rattle.damage_rows.specs.Table.{is_missing}
use Rattle.damage_rows.proofs.RangeLaws.{damaged_by, undamaged_by}
use Rattle.damage_rows.proofs.TableLaws.{missing_low}
use Rattle.damage_rows.proofs.damage.Damage.is_damaged.Goals as goal

pub returns-then-is_missing : goal.returns-then-is_missing
returns-then-is_missing c =
    let rows : c.self.inside.rows ≡ c.args.self.now.rows = ap (λ m. m.rows) c.self.view_is in
    let r = c.loop-block_row.block_row in
    let low : 8 * r ≤ c.args.row + 21 = omega arith in
    let high : c.args.row ≤ 8 * r + 29 = omega arith in
    sym (damaged_by c.args.self.now.rows c.args.self.now.missing c.args.row r (omega arith) (sym c.is_missing.ensures ∙ c.if-is_missing.true) low high)

pub returns : goal.returns
returns c =
    let listed : (r : ℕ) → is_missing c.args.self.now.missing r ≡ true → r < 32768 = rw (← c.self.view_is) (missing_low c.self.inside.words.items) in
    let none : (r : ℕ) → r < 32768 → 8 * r ≤ c.args.row + 21 → c.args.row ≤ 8 * r + 29 → is_missing c.args.self.now.missing r ≡ false =
    λ r small low high. c.loop-block_row.invariant r (omega arith) high in
    sym (undamaged_by c.args.self.now.rows c.args.self.now.missing c.args.row listed none)
