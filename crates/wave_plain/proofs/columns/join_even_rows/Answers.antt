use Rattle.std.proofs.Common.{◌+◌, ◌*◌, ◌≤◌, arith}
use Rattle.wave_defs.proofs.GridLaws.{row_ends, SameWithin-put_at}
use Rattle.wave_defs.proofs.LiftLaws.{Agrees-columns_even}
use Rattle.wave_defs.proofs.PassLemmas.{Agrees-part}
use Rattle.wave_plain.proofs.columns.join_even_rows.Goals as goal

pub loop-i-preserved : goal.loop-i-preserved
loop-i-preserved c =
    let w = c.args.halves.width in
    let i = c.loop-i.i in
    let room : 2 * i * w + w ≤ 2 * c.args.halves.count * w = row_ends (2 * c.args.halves.count) (2 * i) w (omega arith) in
    SameWithin-put_at (λ k. 2 * k) w i _ _ _ _ (omega arith) (omega arith) (omega arith) (λ k h. omega arith) c.loop-i.invariant
    (Agrees-columns_even _ _ w _ i _ _ _ _ _ c.row_of-here.ensures.whole c.saturating_sub.ensures c.even_row.ensures
    (Agrees-part w _ _ _ c.row_of-here.ensures.row)
    (Agrees-part w _ _ _ c.row_of-before.ensures.row)
    (Agrees-part w _ _ _ c.row_of-after.ensures.row))
