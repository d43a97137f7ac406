use Rattle.std.proofs.Common.{◌≡◌, ◌≤◌, ◌<◌, ◌*◌, ◌+◌, ℕ, false}
use Rattle.damage_rows.specs.Table.{is_missing}
use Rattle.damage_rows.proofs.damage.Damage.is_damaged.Given as goal

abbrev pub invariant-loop-block_row : goal.invariant-loop-block_row
invariant-loop-block_row l = (r : ℕ) → r < l.block_row → l.row ≤ 8 * r + 29 → is_missing l.self.missing r ≡ false
