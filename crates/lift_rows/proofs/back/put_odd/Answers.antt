use Rattle.std.proofs.Common.{ℕ, ◌<◌, ◌+◌, ◌*◌, min, length, ◌∙◌, arith, w64}
use Rattle.std.proofs.lemmas.Int.{to_z-of_z}
use Rattle.wave_defs.proofs.Filled.{Agrees-set_at, Agrees-set_off}
use Rattle.lift_rows.proofs.Values.{stored_even, odd_is}
use Rattle.lift_rows.proofs.back.put_odd.Goals as goal

pub odd_sample-requires-clause-in_a : goal.odd_sample-requires-clause-in_a
odd_sample-requires-clause-in_a c =
    let h = c.requires.halves in
    (stored_even _ _ _ (length c.args.low.now) _ c.mirrored_before.result (omega arith) (omega arith) h.low_bounded h.high_bounded c.requires.valid.even).0

pub odd_sample-requires-clause-in_b : goal.odd_sample-requires-clause-in_b
odd_sample-requires-clause-in_b c =
    let h = c.requires.halves in
    (stored_even _ _ _ (length c.args.low.now) _ c.args.j (omega arith) (omega arith) h.low_bounded h.high_bounded c.requires.valid.even).0

pub odd_sample-requires-clause-in_c : goal.odd_sample-requires-clause-in_c
odd_sample-requires-clause-in_c c =
    let h = c.requires.halves in
    (stored_even _ _ _ (length c.args.low.now) _ c.mirrored_after.result (omega arith) (omega arith) h.low_bounded h.high_bounded c.requires.valid.even).0

pub odd_sample-requires-clause-in_d : goal.odd_sample-requires-clause-in_d
odd_sample-requires-clause-in_d c =
    let h = c.requires.halves in
    (stored_even _ _ _ (length c.args.low.now) _ c.mirrored_after-2.result (omega arith) (omega arith) h.low_bounded h.high_bounded c.requires.valid.even).0

pub returns : goal.returns
returns c =
    let h = c.requires.halves in
    let room = h.room in
    let s = c.requires.valid in
    let n = length c.args.low.now in
    let at = λ (k : ℕ) (l : k < min n (c.args.j + 3)). (stored_even _ _ _ n _ k (omega arith) l h.low_bounded h.high_bounded s.even).1 in
    let result = to_z-of_z w64 c.odd_sample.result (record { sfits = c.odd_sample.type_inv }) in
    let is = odd_is _ _ n c.args.j _ _ _ _ _ _ _ _ c.requires.inside h.high_bounded c.mirrored_before.ensures c.mirrored_after.ensures.value
    c.mirrored_after-2.ensures.value (at c.mirrored_before.result (omega arith)) (at c.args.j (omega arith)) (at c.mirrored_after.result (omega arith))
    (at c.mirrored_after-2.result (omega arith)) c.odd_sample.ensures in
    record {
      even = Agrees-set_off (λ k. 2 * k) _ _ _ _ _ (λ k l. omega arith) s.even;
      odd = Agrees-set_at (λ k. 2 * k + 1) _ _ _ _ (omega arith) (λ k l. omega arith) s.odd (result ∙ is);
    }
