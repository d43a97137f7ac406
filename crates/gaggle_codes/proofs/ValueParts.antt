-- The bits of mapped values under an option.
use Rattle.std.proofs.Common.{◌≡◌, ℕ, List, ◌++◌, true, false, eqb, refl, arith, ◌≢◌, Result, Err, flat_map, append-nil}
use Rattle.std.proofs.lemmas.Bool.{cases_eq}
use Rattle.std.proofs.Common.{inl, inr}
use Rattle.std.proofs.lemmas.Bool.Decides.{nat_tests}
use Rattle.item_defs.specs.Bits.{bits_of}
use Rattle.bit_pipe.specs.Sinks.{SinkOf}
use Rattle.bit_pipe.specs.SinkState.{SinkState, Adds, Puts}
use Rattle.bit_pipe.specs.declared.fault.PutFault.{PutFault}
use Rattle.bit_pipe.proofs.Putting.{puts_then, puts_cut, puts_again}
use Rattle.gaggle_codes.specs.GaggleBits.{unary_bits, rest_bits, value_bits}

differ : (a b : ℕ) → a ≢ b → eqb a b ≡ false
differ a b ne = grind (arith, nat_tests)

module _ (N name : ℕ) (values : List ℕ) where
  pub bits_uncoded : name ≡ 15 → value_bits N name values ≡ flat_map (bits_of N) values
  bits_uncoded e = let t : eqb name 15 ≡ true = grind (arith, nat_tests) in rw t refl

  pub bits_whole : name ≢ 15 → name ≡ 0 → value_bits N name values ≡ flat_map (unary_bits name) values
  bits_whole ne z = grind (arith, nat_tests, differ, append-nil)

  pub bits_split : name ≢ 15 → name ≢ 0 → value_bits N name values ≡ flat_map (unary_bits name) values ++ flat_map (rest_bits name) values
  bits_split ne nz = grind (arith, nat_tests, differ)

  -- both parts were put
  pub split_then : {S T : Type 0} {k : SinkOf S} {r : Result T PutFault} {a b c : SinkState S} → name ≢ 15 → name ≢ 0 →
      Adds k a b (flat_map (unary_bits name) values) → Puts k r b c (flat_map (rest_bits name) values) → Puts k r a c (value_bits N name values)
  split_then ne nz p q = rw (bits_split ne nz) (puts_then p q)

  -- the unary parts were not all put
  pub split_ended : {S T U : Type 0} {k : SinkOf S} {e : PutFault} {a b : SinkState S} → name ≢ 15 →
      Puts {T = T} k (Err e) a b (flat_map (unary_bits name) values) → Puts {T = U} k (Err e) a b (value_bits N name values)
  split_ended ne p =
      elim (cases_eq name 0) [
        | inl z ↦ rw (bits_whole ne z) (puts_again p)
        | inr nz ↦ rw (bits_split ne nz) (puts_cut (flat_map (rest_bits name) values) p)
      ]
