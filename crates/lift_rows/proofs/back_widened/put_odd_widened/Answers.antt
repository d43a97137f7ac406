use Rattle.std.proofs.Common.{ℕ, ◌<◌, ◌+◌, ◌-◌, ◌*◌, ◌^◌, length, ◌∙◌, arith, w32, w64}
use Rattle.wave_defs.specs.Held.{signal}
use Rattle.wave_defs.proofs.Shifts.{kept}
use Rattle.std.proofs.lemmas.Int.{to_z-of_z}
use Rattle.wave_defs.proofs.Filled.{Agrees-set_at, Agrees-set_off}
use Rattle.lift_rows.proofs.Values.{stored_even, odd_is}
use Rattle.lift_rows.proofs.back_widened.put_odd_widened.Goals as goal

pub odd_sample-requires-clause-in_a : goal.odd_sample-requires-clause-in_a
odd_sample-requires-clause-in_a c =
    let h = c.requires.halves in
    (stored_even _ _ _ (length c.args.low.now) _ c.mirrored_before.result (omega arith) (omega arith) h.low_bounded h.high_bounded c.requires.valid.even).0

pub odd_sample-requires-clause-in_b : goal.odd_sample-requires-clause-in_b
odd_sample-requires-clause-in_b c =
    let h = c.requires.halves in
    (stored_even _ _ _ (length c.args.low.now) _ c.args.j (omega arith) (omega arith) h.low_bounded h.high_bounded c.requires.valid.even).0

pub odd_sample-requires-clause-in_c : goal.odd_sample-requires-clause-in_c
odd_sample-requires-clause-in_c c =
    let h = c.requires.halves in
    (stored_even _ _ _ (length c.args.low.now) _ c.mirrored_after.result (omega arith) (omega arith) h.low_bounded h.high_bounded c.requires.valid.even).0

pub odd_sample-requires-clause-in_d : goal.odd_sample-requires-clause-in_d
odd_sample-requires-clause-in_d c =
    let h = c.requires.halves in
    (stored_even _ _ _ (length c.args.low.now) _ c.mirrored_after-2.result (omega arith) (omega arith) h.low_bounded h.high_bounded c.requires.valid.even).0

pub returns : goal.returns
returns c =
    let h = c.requires.halves in
    let room = h.room in
    let s = c.requires.valid in
    let n = length c.args.low.now in
    let at = λ (k : ℕ) (l : k < n). (stored_even _ _ _ n n k (omega arith) l h.low_bounded h.high_bounded s.even).1 in
    let result = to_z-of_z w64 c.odd_sample.result (record { sfits = c.odd_sample.type_inv }) in
    let kh = c.from.ensures ∙ kept w32 (2 ^ 31 - 1) (signal c.args.high.now c.args.j) (omega arith) (c.requires.high_bounded.at c.args.j c.requires.inside) in
    let made = simp kh at c.odd_sample.ensures in
    let is = odd_is (signal c.args.low.now) (signal c.args.high.now) n c.args.j _ _ _ _ _ _ _ _ c.requires.inside h.high_bounded c.mirrored_before.ensures
    c.mirrored_after.ensures.value c.mirrored_after-2.ensures.value (at c.mirrored_before.result (omega arith)) (at c.args.j (omega arith))
    (at c.mirrored_after.result (omega arith)) (at c.mirrored_after-2.result (omega arith)) made in
    record {
      even = Agrees-set_off (λ k. 2 * k) _ _ _ _ _ (λ k l. omega arith) s.even;
      odd = Agrees-set_at (λ k. 2 * k + 1) _ _ _ _ (omega arith) (λ k l. omega arith) s.odd (result ∙ is);
    }
