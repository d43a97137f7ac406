use Rattle.std.proofs.Common.{ℕ, ◌<◌, ◌+◌, ◌-◌, ◌*◌, ◌^◌, ℤ, length, ◌∙◌, subst, sym, arith, w64, to_z, of_z, length-set}
use Rattle.wave_defs.specs.Within.{IsWithin}
use Rattle.std.proofs.lemmas.Int.{to_z-of_z}
use Rattle.wave_defs.proofs.Filled.{Agrees-set_at, Agrees-set_off}
use Rattle.lift_rows.proofs.Values.{even_is, stored_even, odd_is}
use Rattle.lift_rows.proofs.back.put_pair.Goals as goal

pub odd_sample-requires-clause-in_a : goal.odd_sample-requires-clause-in_a
odd_sample-requires-clause-in_a c =
    let h = c.requires.halves in
    (stored_even _ _ _ (length c.args.low.now) _ (c.args.j - 1) (omega arith) (omega arith) h.low_bounded h.high_bounded c.requires.valid.even).0

pub odd_sample-requires-clause-in_b : goal.odd_sample-requires-clause-in_b
odd_sample-requires-clause-in_b c =
    let h = c.requires.halves in
    (stored_even _ _ _ (length c.args.low.now) _ c.args.j (omega arith) (omega arith) h.low_bounded h.high_bounded c.requires.valid.even).0

pub odd_sample-requires-clause-in_c : goal.odd_sample-requires-clause-in_c
odd_sample-requires-clause-in_c c =
    let h = c.requires.halves in
    (stored_even _ _ _ (length c.args.low.now) _ (c.args.j + 1) (omega arith) (omega arith) h.low_bounded h.high_bounded c.requires.valid.even).0

pub odd_sample-requires-clause-in_d : goal.odd_sample-requires-clause-in_d
odd_sample-requires-clause-in_d c =
    let h = c.requires.halves in
    let stored = to_z-of_z w64 c.even_sample-second.result (record { sfits = c.even_sample-second.type_inv }) in
    subst (λ (z : ℤ). IsWithin (2 ^ 40) z) (sym stored)
    (even_is _ _ _ (c.args.j + 2) _ _ c.requires.inside (omega arith) h.low_bounded h.high_bounded c.even_sample-second.ensures).0

pub returns : goal.returns
returns c =
    let h = c.requires.halves in
    let room = h.room in
    let s = c.requires.valid in
    let n = length c.args.low.now in
    let j = c.args.j in
    let at = λ (k : ℕ) (l : k < j + 2). (stored_even _ _ _ n _ k (omega arith) l h.low_bounded h.high_bounded s.even).1 in
    let second = (even_is _ _ _ (j + 2) _ _ c.requires.inside (omega arith) h.low_bounded h.high_bounded c.even_sample-second.ensures).1 in
    let stored = to_z-of_z w64 c.even_sample-second.result (record { sfits = c.even_sample-second.type_inv }) in
    let result = to_z-of_z w64 c.odd_sample.result (record { sfits = c.odd_sample.type_inv }) in
    let is = odd_is _ _ n j (j - 1) (j + 1) (j + 2) _ _ _ _ _ (omega arith) h.high_bounded (omega arith) (omega arith) (omega arith)
    (at (j - 1) (omega arith)) (at j (omega arith)) (at (j + 1) (omega arith)) (stored ∙ second) c.odd_sample.ensures in
    let even = Agrees-set_at (λ k. 2 * k) _ (j + 2) _ _ (omega arith) (λ k l. omega arith) s.even (stored ∙ second) in
    let odd = Agrees-set_off (λ k. 2 * k + 1) _ _ _ _ _ (λ k l. omega arith) s.odd in
    let same = length-set c.args.row.now (2 * (j + 2)) (to_z w64 (of_z w64 c.even_sample-second.result)) in
    record {
      even = record { at = λ k l. (Agrees-set_off (λ i. 2 * i) _ _ _ _ _ (λ i m. omega arith) even).at k (omega arith) };
      odd = Agrees-set_at (λ k. 2 * k + 1) _ j _ _ (omega (arith, same)) (λ k l. omega arith) odd (result ∙ is);
    }
