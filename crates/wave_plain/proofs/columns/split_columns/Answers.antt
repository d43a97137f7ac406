use Rattle.std.proofs.Common.{ℕ, ◌+◌, ◌*◌, ◌^◌, ◌<◌, ◌≤◌, arith}
use Rattle.wave_defs.proofs.GridLaws.{row_ends, SameWithin-write_row}
use Rattle.wave_defs.proofs.LiftLaws.{Agrees-columns_high, Agrees-columns_low, Agrees-trans, Agrees-row_of}
use Rattle.wave_defs.proofs.PassLemmas.{Agrees-part, AllWithin-high}
use Rattle.wave_plain.proofs.columns.split_columns.Goals as goal

pub highs-preserved : goal.highs-preserved
highs-preserved c =
    let w = c.args.w in
    let i = c.highs.i in
    let room : i * w + w ≤ c.args.n * w = row_ends c.args.n i w (omega arith) in
    SameWithin-write_row w i _ _ _ _ (omega arith) (omega arith) (omega arith) c.highs.invariant
    (Agrees-columns_high _ w _ _ i _ _ _ _ _ _ _ _ _ c.row_of-odd.ensures.whole c.mirrored_before.ensures c.mirrored_after.ensures.value
    c.mirrored_after-in-highs.ensures.value c.high_row.ensures
    (Agrees-part w _ _ _ c.row_of-odd.ensures.row)
    (Agrees-part w _ _ _ c.row_of.ensures.row)
    (Agrees-part w _ _ _ c.row_of-in-highs.ensures.row)
    (Agrees-part w _ _ _ c.row_of-in-highs-2.ensures.row)
    (Agrees-part w _ _ _ c.row_of-in-highs-3.ensures.row))

pub low_row-requires-clause-bounded_before : goal.low_row-requires-clause-bounded_before
low_row-requires-clause-bounded_before c =
    AllWithin-high (2 ^ 23) _ c.args.w _ _ c.saturating_sub.result _ _ _ (omega arith) (omega arith) (omega arith) (omega arith) c.row_of-even.ensures.whole
    c.requires.bounded c.highs.invariant
    (Agrees-part c.args.w _ _ _ c.row_of-before.ensures.row)

pub low_row-requires-clause-bounded_after : goal.low_row-requires-clause-bounded_after
low_row-requires-clause-bounded_after c =
    AllWithin-high (2 ^ 23) _ c.args.w _ _ c.lows.i _ _ _ (omega arith) (omega arith) (omega arith) (omega arith) c.row_of-even.ensures.whole
    c.requires.bounded c.highs.invariant
    (Agrees-part c.args.w _ _ _ c.row_of-after.ensures.row)

pub lows-preserved : goal.lows-preserved
lows-preserved c =
    let w = c.args.w in
    let i = c.lows.i in
    let room : i * w + w ≤ c.args.n * w = row_ends c.args.n i w (omega arith) in
    let high_row = λ (k : ℕ) (h : k < c.args.n). Agrees-row_of c.highs.i w k _ _ (omega arith) c.highs.invariant in
    SameWithin-write_row w i _ _ _ _ (omega arith) (omega arith) (omega arith) c.lows.invariant
    (Agrees-columns_low _ w _ _ i _ _ _ _ _ c.row_of-even.ensures.whole c.saturating_sub.ensures c.low_row.ensures
    (Agrees-part w _ _ _ c.row_of-even.ensures.row)
    (Agrees-trans _ _ _ _ (Agrees-part w _ _ _ c.row_of-before.ensures.row) (high_row c.saturating_sub.result (omega arith)))
    (Agrees-trans _ _ _ _ (Agrees-part w _ _ _ c.row_of-after.ensures.row) (high_row i (omega arith))))
