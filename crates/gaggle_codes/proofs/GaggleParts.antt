-- The bits of one gaggle after another.
use Rattle.std.proofs.Common.{◌≡◌, ℕ, zero, suc, ◌+◌, ◌<◌, ◌≤◌, List, [], ◌++◌, Bool, refl, sym, ap, ◌∙◌, append_assoc, arith, add-one, inl, inr, Result}
use Rattle.std.proofs.Common.{Ok, Err, append-nil}
use Rattle.std.specs.Int.{div_ceil}
use Rattle.std.proofs.lemmas.Bool.{cases_lt}
use Rattle.bit_pipe.specs.Sinks.{SinkOf}
use Rattle.bit_pipe.specs.SinkState.{SinkState, IsOpen, Adds, Puts}
use Rattle.bit_pipe.specs.declared.fault.PutFault.{PutFault}
use Rattle.bit_pipe.proofs.Putting.{adds_start, adds_then, puts_then, puts_cut, puts_ended, puts_whole}
use Rattle.item_defs.specs.Bits.{bits_of}
use Rattle.number_defs.specs.Gaggles.{identifier_bits, gaggle_values, gaggle_count}
use Rattle.gaggle_codes.specs.GaggleBits.{value_bits, lead_bits, gaggle_bits, bits_before}
use Rattle.std.proofs.lemmas.Bool.Decides.{nat_tests}

pub ceil16 : (n : ℕ) → div_ceil n 16 ≡ gaggle_count n
ceil16 n = omega arith

pub lead_later : {S : Type 0} (k : SinkOf S) (s : SinkState S) (signed : Bool) (N : ℕ) (heights : List ℕ) (g : ℕ) → IsOpen s → 0 < g →
    Puts {T = Unit {0}} k (Ok tt) s s (lead_bits signed N heights g)
lead_later k s signed N heights g h lt = grind (arith, nat_tests, puts_whole, adds_start)

module _ (signed : Bool) (N : ℕ) (heights : List ℕ) (names : ℕ → ℕ) where
  one_more : (g : ℕ) → bits_before signed N heights names g ++ gaggle_bits signed N heights (names g) g ≡ bits_before signed N heights names (g + 1)
  unfolding bits_before
  one_more g = rw add-one refl

  -- the bits of the first gaggles are a prefix of those of more gaggles
  rest_of : (n g : ℕ) → g ≤ n → (rest : List Bool) × (bits_before signed N heights names g ++ rest ≡ bits_before signed N heights names n)
  unfolding bits_before
  rest_of zero g le = let z : g ≡ 0 = omega arith in ([], rw z refl)
  rest_of (suc n) g le =
      elim (cases_lt g (suc n)) [
        | inl lt ↦
            let r = rest_of n g (omega arith) in
            let last = gaggle_bits signed N heights (names n) n in
            (r.0 ++ last, sym (append_assoc (bits_before signed N heights names g) r.0 last) ∙ ap (λ t. t ++ last) r.1)
        | inr ge ↦
            let same : g ≡ suc n = omega arith in
            ([], rw same (append-nil (bits_before signed N heights names (suc n))))
      ]

  pub gaggle_none : {S : Type 0} (k : SinkOf S) (s : SinkState S) → IsOpen s → Adds k s s (bits_before signed N heights names 0)
  unfolding bits_before
  gaggle_none k s h = adds_start k s h

  pub gaggle_more : {S : Type 0} {k : SinkOf S} {a b c : SinkState S} (g : ℕ) → Adds k a b (bits_before signed N heights names g) →
      Adds k b c (gaggle_bits signed N heights (names g) g) →
      Adds k a c (bits_before signed N heights names (g + 1))
  gaggle_more g p q = rw (← one_more g) (adds_then p q)

  -- the result of a loop over gaggles if one was not put whole
  pub gaggle_ended : {S T U : Type 0} {k : SinkOf S} {e : PutFault} {a b c : SinkState S} (n g : ℕ) → g < n →
      Adds k a b (bits_before signed N heights names g) →
      Puts {T = T} k (Err e) b c (gaggle_bits signed N heights (names g) g) → Puts {T = U} k (Err e) a c (bits_before signed N heights names n)
  gaggle_ended n g lt p q =
      let r = rest_of n (g + 1) (omega arith) in
      puts_ended r.0 p q (sym (append_assoc (bits_before signed N heights names g) (gaggle_bits signed N heights (names g) g) r.0) ∙ ap (λ t. t ++ r.0)
      (one_more g) ∙ r.1)

  pub gaggles_all : {S : Type 0} {k : SinkOf S} {a b : SinkState S} (n g : ℕ) → g ≡ n → Adds k a b (bits_before signed N heights names g) →
      Puts {T = Unit {0}} k (Ok tt) a b (bits_before signed N heights names n)
  gaggles_all n g e p = rw (← e) (puts_whole p)

-- the parts of one gaggle
module _ (signed : Bool) (N : ℕ) (heights : List ℕ) (name g : ℕ) where
  pub identifier_cut : {S T U : Type 0} {k : SinkOf S} {e : PutFault} {a b : SinkState S} → Puts {T = T} k (Err e) a b (bits_of (identifier_bits N) name) →
      Puts {T = U} k (Err e) a b (gaggle_bits signed N heights name g)
  identifier_cut p = puts_cut (lead_bits signed N heights g ++ value_bits N name (gaggle_values N heights g)) p

  pub lead_cut : {S T U : Type 0} {k : SinkOf S} {e : PutFault} {a b c : SinkState S} → Adds k a b (bits_of (identifier_bits N) name) →
      Puts {T = T} k (Err e) b c (lead_bits signed N heights g) → Puts {T = U} k (Err e) a c (gaggle_bits signed N heights name g)
  lead_cut p q = puts_ended (value_bits N name (gaggle_values N heights g)) p q refl

  pub gaggle_then : {S T : Type 0} {k : SinkOf S} {r : Result T PutFault} {a b c d : SinkState S} → Adds k a b (bits_of (identifier_bits N) name) →
      Adds k b c (lead_bits signed N heights g) → Puts k r c d (value_bits N name (gaggle_values N heights g)) →
      Puts k r a d (gaggle_bits signed N heights name g)
  gaggle_then p q r = puts_then p (puts_then q r)
