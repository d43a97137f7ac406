use Rattle.std.proofs.Common.{ℕ, ◌+◌, ◌*◌, ◌<◌, ◌≤◌, arith}
use Rattle.std.proofs.lemmas.Grind.{common_steps}
use Rattle.wave_defs.proofs.GridLaws.{row_ends, SameWithin-put_at, SameWithin-put_off}
use Rattle.wave_defs.proofs.LiftLaws.{Agrees-columns_odd, Agrees-trans, Agrees-row_of}
use Rattle.wave_defs.proofs.PassLemmas.{Agrees-part}
use Rattle.wave_plain.proofs.columns.join_odd_rows.Goals as goal

pub odd_row-requires-clause-bounded_a : goal.odd_row-requires-clause-bounded_a
odd_row-requires-clause-bounded_a c = grind (arith, common_steps)

pub odd_row-requires-clause-bounded_b : goal.odd_row-requires-clause-bounded_b
odd_row-requires-clause-bounded_b c = grind (arith, common_steps)

pub odd_row-requires-clause-bounded_c : goal.odd_row-requires-clause-bounded_c
odd_row-requires-clause-bounded_c c = grind (arith, common_steps)

pub odd_row-requires-clause-bounded_d : goal.odd_row-requires-clause-bounded_d
odd_row-requires-clause-bounded_d c = grind (arith, common_steps)

pub loop-i-preserved : goal.loop-i-preserved
loop-i-preserved c =
    let w = c.args.halves.width in
    let n = c.args.halves.count in
    let i = c.loop-i.i in
    let room : (2 * i + 1) * w + w ≤ 2 * n * w = row_ends (2 * n) (2 * i + 1) w (omega arith) in
    let kept = λ (k : ℕ) (h : k < n). Agrees-row_of n w k _ _ h c.loop-i.invariant.even in
    let made =
    Agrees-columns_odd _ _ w _ n i _ _ _ _ _ _ _ _ _ c.row_of-in-loop-i-4.ensures.whole c.mirrored_before.ensures c.mirrored_after.ensures.value
    c.mirrored_after-in-loop-i.ensures.value c.odd_row.ensures
    (Agrees-part w _ _ _ c.row_of-in-loop-i-4.ensures.row)
    (Agrees-trans _ _ _ _ (Agrees-part w _ _ _ c.row_of.ensures.row) (kept c.mirrored_before.result (omega arith)))
    (Agrees-trans _ _ _ _ (Agrees-part w _ _ _ c.row_of-in-loop-i.ensures.row) (kept i (omega arith)))
    (Agrees-trans _ _ _ _ (Agrees-part w _ _ _ c.row_of-in-loop-i-2.ensures.row) (kept c.mirrored_after.result (omega arith)))
    (Agrees-trans _ _ _ _ (Agrees-part w _ _ _ c.row_of-in-loop-i-3.ensures.row) (kept c.mirrored_after-in-loop-i.result (omega arith))) in
    record {
      even = SameWithin-put_off (λ k. 2 * k) (2 * i + 1) w n _ _ _ _ (omega arith) (omega arith) (omega arith) (λ k h. omega arith) c.loop-i.invariant.even;
      odd = SameWithin-put_at (λ k. 2 * k + 1) w i _ _ _ _ (omega arith) (omega arith) (omega arith) (λ k h. omega arith) c.loop-i.invariant.odd
          (rw c.copy_from_slice.ensures.after made);
    }
