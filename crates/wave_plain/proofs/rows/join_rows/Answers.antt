use Rattle.std.proofs.Common.{◌+◌, ◌*◌, ◌≤◌, arith}
use Rattle.std.proofs.lemmas.Grind.{common_steps}
use Rattle.wave_defs.proofs.GridLaws.{row_ends, SameWithin-write_row}
use Rattle.wave_defs.proofs.PassLemmas.{Agrees-part, Agrees-rows_merged}
use Rattle.wave_plain.proofs.rows.join_rows.Goals as goal

pub inverse_row-requires-clause-low_bounded : goal.inverse_row-requires-clause-low_bounded
inverse_row-requires-clause-low_bounded c = grind (arith, common_steps)

pub inverse_row-requires-clause-high_bounded : goal.inverse_row-requires-clause-high_bounded
inverse_row-requires-clause-high_bounded c = grind (arith, common_steps)

pub loop-i-preserved : goal.loop-i-preserved
loop-i-preserved c =
    let n = c.args.n in
    let i = c.loop-i.i in
    let room : i * (2 * n) + 2 * n ≤ c.args.rows * (2 * n) = row_ends c.args.rows i (2 * n) (omega arith) in
    SameWithin-write_row (2 * n) i _ _ _ _ (omega arith) (omega arith) (omega arith) c.loop-i.invariant
    (Agrees-rows_merged n _ i _ _ _ _ _ c.row_of-low_row.ensures.whole (omega arith) c.inverse_row.ensures
    (Agrees-part n i _ _ c.row_of-low_row.ensures.row) (Agrees-part n i _ _ c.row_of-high_row.ensures.row))
