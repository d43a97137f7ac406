use Rattle.std.proofs.Common.{sym, ◌∙◌, arith}
use Rattle.damage_rows.proofs.RangeLaws.{run_on}
use Rattle.damage_rows.proofs.damage.Damage.last_of_range.Goals as goal

pub loop-row-preserved : goal.loop-row-preserved
loop-row-preserved c =
    let more = run_on c.args.self.now.rows c.args.self.now.missing c.loop-row.row (sym c.is_damaged.ensures ∙ c.if-not-is_damaged.false) in
    omega (arith, more, c.loop-row.invariant)
