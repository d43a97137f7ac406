-- Down to which plane a DC part gives each number, if all of it is read.
use Rattle.std.proofs.Common.{◌≡◌, ◌≤◌, ◌<◌, ℕ, suc, ◌+◌, ◌-◌, ◌^◌, ◌==◌, nat_lt, Bool, true, false, if◌then◌else◌, length, refl, ap, sym, subst, arith}
use Rattle.std.proofs.Common.{Option, Some, None, ℤ, pos, ◌+ℤ◌, ◌*ℤ◌, neg_ℤ}
use Rattle.std.proofs.lemmas.Bool.Decides.{nat_tests}
use Rattle.number_defs.specs.DcPart.{dc_q, dc_bits, dc_kind, dc_planes}
use Rattle.item_defs.specs.Scripts.{ask, done, around, bit_form}
use Rattle.item_defs.proofs.Completing.{ends_of_goes}
use Rattle.item_defs.proofs.ScriptYields.{Yields, yields_then, yields_turn, yields_around, yields_any}
use Rattle.number_defs.specs.ScriptLaws.{AreCounted}
use Rattle.number_defs.proofs.NumberLaws.{numbers_counted}
use Rattle.number_defs.specs.NumberScript.{numbers_script}
use Rattle.number_defs.specs.DcLows.{DcGiven, no_dcs, with_dc_given, dc_bits_given, dcs_given, high_given, dc_planes_given, dc_given}

-- the k-th plane is the least that is given of each
abbrev pub AreDown : (count k : ℕ) → DcGiven → Type 0
AreDown count k g = (r : ℕ) → r < count → g.lows r ≡ Some k

abbrev Any : DcGiven → Type 0
Any g = Unit {0}

module _ (count : ℕ) where
  bits_yield : (weight : ℤ) (k : ℕ) (g : DcGiven) → Yields Any (AreDown count k) (dc_bits_given weight k count g)
  bits_yield weight k g =
      let all : 0 + count ≡ count = omega arith in
      subst (λ n. Yields Any (AreDown n k) (dc_bits_given weight k count g)) all
      (yields_turn Any (λ j. AreDown j k) (λ r u. ask u bit_form (λ b. done (with_dc_given u r (u.dcs r +ℤ (pos b *ℤ weight)) k))) 0 count
      (λ j u low high p. (tt, λ b said good r lt. by j u p r lt (r == j) refl))
      g (λ r lt. absurd (omega (arith, lt))))
    where
      by : (j : ℕ) (u : DcGiven) → AreDown j k u → (r : ℕ) → r < suc j → (x : Bool) → (r == j) ≡ x → (if x then Some k else u.lows r) ≡ Some k
      by j u p r lt true e = refl
      by j u p r lt false e = p r (let ne : r ≡ j → ⊥ = grind (arith, nat_tests) in omega (arith, lt, ne))

  high_yields : (N q : ℕ) → Yields Any (AreDown count q) (high_given N q count)
  high_yields N q = by (N == 1)
    where
      by : (b : Bool) → Yields Any (AreDown count q)
          (if b then dc_bits_given (neg_ℤ (pos (2 ^ q))) q count no_dcs else around (dcs_given N q) (numbers_script (dc_kind N) count))
      by true = bits_yield (neg_ℤ (pos (2 ^ q))) q no_dcs
      by false =
          yields_around (λ hs. Unit {0}) (AreCounted (2 ^ N) count) Any (AreDown count q) (dcs_given N q) (λ hs p. tt)
          (λ hs p r lt. let long = p.long in
          let e : nat_lt r (length hs) ≡ true = grind (arith, nat_tests, lt, long) in ap (λ (x : Bool). if x then Some q else None) e)
          (numbers_script (dc_kind N) count) (yields_any (AreCounted (2 ^ N) count) (numbers_script (dc_kind N) count)
          (ends_of_goes (AreCounted (2 ^ N) count) (numbers_script (dc_kind N) count) (numbers_counted (dc_kind N) count)))

  planes_yield : (q n : ℕ) (g : DcGiven) → AreDown count q g → Yields Any (AreDown count (q - n)) (dc_planes_given q count n g)
  planes_yield q n g h =
      let all : 0 + n ≡ n = omega arith in
      let first : q ≡ q - 0 = omega arith in
      subst (λ m. Yields Any (AreDown count (q - m)) (dc_planes_given q count n g)) all
      (yields_turn Any (λ i. AreDown count (q - i)) (λ i. dc_bits_given (pos (2 ^ (q - suc i))) (q - suc i) count) 0 n
      (λ i u low high p. bits_yield (pos (2 ^ (q - suc i))) (q - suc i) u) g (subst (λ k. AreDown count k g) first h))

pub dc_down : (depth_dc depth_ac shift count : ℕ) →
    Yields (λ g. Unit {0}) (AreDown count (dc_q depth_dc depth_ac shift - dc_planes depth_dc depth_ac shift)) (dc_given depth_dc depth_ac shift count)
dc_down depth_dc depth_ac shift count =
    let q = dc_q depth_dc depth_ac shift in
    let n = dc_planes depth_dc depth_ac shift in
    yields_then Any (AreDown count q) (AreDown count (q - n)) (high_given (dc_bits depth_dc depth_ac shift) q count) (dc_planes_given q count n)
    (high_yields count (dc_bits depth_dc depth_ac shift) q) (planes_yield count q n)
