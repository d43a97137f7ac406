-- What is added to a number that is restored, in bits.
use Rattle.std.proofs.Common.{◌≡◌, inl, inr, ℕ, zero, suc, ◌+◌, ◌-◌, ◌*◌, ◌/◌, ◌<◌, ◌≤◌, ◌^◌, ◌&&◌, not, nat_le, max, Bool, true, false}
use Rattle.std.proofs.Common.{if◌then◌else◌, refl, ap, sym, ◌∙◌, arith, subst, Option, Some, None, ℤ, pos, ◌+ℤ◌, neg_ℤ, pow-add}
use Rattle.std.proofs.Math.Nat.{pow-succ'}
use Rattle.std.proofs.lemmas.Bool.{cases_lt}
use Rattle.std.proofs.lemmas.Bool.Decides.{nat_tests}
use Rattle.std.proofs.lemmas.Int.{ints}
use Rattle.base_122.specs.Restored.{restored_dc}
use Rattle.plane_defs.specs.Restored.{restored_ac, ac_rest}
use Rattle.block_masks.proofs.MaskedNumbers.{signed}
use Rattle.plane_reader.specs.Restoring.{weight_below}

-- ---- three eighths of an interval

-- a bit, if a number of this shift can have it
abbrev bit_from : (s low down : ℕ) → ℕ
bit_from s low down = if nat_le (s + down) low then 2 ^ (low - down) else 0

no_bit : (s low down : ℕ) → low < s + down → bit_from s low down ≡ 0
no_bit s low down lt = let e : nat_le (s + down) low ≡ false = grind (arith, nat_tests) in ap (λ x. if x then 2 ^ (low - down) else 0) e

one_bit : (s low down : ℕ) → s + down ≤ low → bit_from s low down ≡ 2 ^ (low - down)
one_bit s low down le = let e : nat_le (s + down) low ≡ true = grind (arith, nat_tests) in ap (λ x. if x then 2 ^ (low - down) else 0) e

no_rest : (s u : ℕ) → u < 2 → 3 * 2 ^ u / 8 ≡ 0
no_rest s zero lt = refl
no_rest s (suc zero) lt = refl
no_rest s (suc (suc u)) lt = absurd (omega (arith, lt))

rest_few : (s u : ℕ) → u < 2 → ac_rest s (s + u) ≡ 0
rest_few s u lt =
    let e : s + u - s ≡ u = omega arith in
    let none : 2 ^ s * 0 ≡ 0 = omega arith in
    ap (λ n. 2 ^ s * (3 * 2 ^ n / 8)) e ∙ ap (λ n. 2 ^ s * n) (no_rest s u lt) ∙ none

eighths : (x : ℕ) → 3 * (8 * x) / 8 ≡ 3 * x
eighths x = omega arith

rest_more : (s v : ℕ) → ac_rest s (s + (3 + v)) ≡ 2 ^ (s + (1 + v)) + 2 ^ (s + v)
rest_more s v =
    let e : s + (3 + v) - s ≡ 3 + v = omega arith in
    let next : s + (1 + v) ≡ suc (s + v) = omega arith in
    let three : 2 ^ s * (3 * 2 ^ v) ≡ 3 * (2 ^ s * 2 ^ v) = grind arith in
    let sum : 3 * 2 ^ (s + v) ≡ 2 * 2 ^ (s + v) + 2 ^ (s + v) = omega arith in
    ap (λ n. 2 ^ s * (3 * 2 ^ n / 8)) e ∙ ap (λ n. 2 ^ s * (3 * n / 8)) (pow-add 2 3 v) ∙ ap (λ n. 2 ^ s * n) (eighths (2 ^ v)) ∙ three ∙
    ap (λ n. 3 * n) (sym (pow-add 2 s v)) ∙ sum ∙ ap (λ n. n + 2 ^ (s + v)) (sym (pow-succ' 2 (s + v)) ∙ ap (λ n. 2 ^ n) (sym next))

rest_far : (s v : ℕ) → bit_from s (s + (3 + v)) 2 + bit_from s (s + (3 + v)) 3 ≡ ac_rest s (s + (3 + v))
rest_far s v =
    let a : s + (3 + v) - 2 ≡ s + (1 + v) = omega arith in
    let b : s + (3 + v) - 3 ≡ s + v = omega arith in
    (λ i. one_bit s (s + (3 + v)) 2 (omega arith) i + one_bit s (s + (3 + v)) 3 (omega arith) i) ∙ (λ i. 2 ^ a i + 2 ^ b i) ∙ sym (rest_more s v)

rest_up : (s u : ℕ) → bit_from s (s + u) 2 + bit_from s (s + u) 3 ≡ ac_rest s (s + u)
rest_up s zero = (λ i. no_bit s (s + 0) 2 (omega arith) i + no_bit s (s + 0) 3 (omega arith) i) ∙ sym (rest_few s 0 (omega arith))
rest_up s (suc zero) = (λ i. no_bit s (s + 1) 2 (omega arith) i + no_bit s (s + 1) 3 (omega arith) i) ∙ sym (rest_few s 1 (omega arith))
rest_up s (suc (suc zero)) =
    let e : s + 2 - s ≡ 2 = omega arith in
    let same : s + 2 - 2 ≡ s = omega arith in
    let once : 2 ^ s + 0 ≡ 2 ^ s * 1 = omega arith in
    (λ i. one_bit s (s + 2) 2 (omega arith) i + no_bit s (s + 2) 3 (omega arith) i) ∙ ap (λ n. 2 ^ n + 0) same ∙ once ∙
    sym (ap (λ n. 2 ^ s * (3 * 2 ^ n / 8)) e)
rest_up s (suc (suc (suc v))) = let e : 3 + v ≡ suc (suc (suc v)) = omega arith in subst (λ u. bit_from s (s + u) 2 + bit_from s (s + u) 3 ≡ ac_rest s
    (s + u)) e (rest_far s v)

rest_bits : (s low : ℕ) → bit_from s low 2 + bit_from s low 3 ≡ ac_rest s low
rest_bits s low = elim (cases_lt low s) [
  | inl lt ↦
      let e : low - s ≡ 0 = omega (arith, lt) in
      let none : 2 ^ s * 0 ≡ 0 = omega arith in
      (λ i. no_bit s low 2 (omega (arith, lt)) i + no_bit s low 3 (omega (arith, lt)) i) ∙ sym (ap (λ n. 2 ^ s * (3 * 2 ^ n / 8)) e ∙ none)
  | inr le ↦
      let e : s + (low - s) ≡ low = omega (arith, le) in
      (λ i. bit_from s (sym e i) 2 + bit_from s (sym e i) 3) ∙ rest_up s (low - s) ∙ ap (ac_rest s) e
]

-- ---- the bits below a plane

and_false : (c : Bool) → (c && false) ≡ false
and_false true = refl
and_false false = refl

and_true : (c : Bool) → (c && true) ≡ c
and_true true = refl
and_true false = refl

coded_weight : (s plane down : ℕ) (c : Bool) → (down ≤ plane → c ≡ nat_le s (plane - down)) → weight_below plane down c ≡ bit_from s plane down
coded_weight s plane down c is = elim (cases_lt plane down) [
  | inl lt ↦
      let e : nat_le down plane ≡ false = grind (arith, nat_tests) in
      ap (λ x. if c && x then 2 ^ (plane - down) else 0) e ∙ ap (λ x. if x then 2 ^ (plane - down) else 0) (and_false c) ∙
      sym (no_bit s plane down (omega (arith, lt)))
  | inr le ↦
      let e : nat_le down plane ≡ true = grind (arith, nat_tests) in
      let same : nat_le s (plane - down) ≡ nat_le (s + down) plane = grind (arith, nat_tests) in
      ap (λ x. if c && x then 2 ^ (plane - down) else 0) e ∙ ap (λ x. if x then 2 ^ (plane - down) else 0) (and_true c ∙ is le ∙ same)
]

-- if the plane gave no bit, the low is the plane above it, or the shift
above_bits : (s plane : ℕ) → bit_from s plane 1 + bit_from s plane 2 ≡ ac_rest s (max s (plane + 1))
above_bits s plane = elim (cases_lt (plane + 1) s) [
  | inl lt ↦
      let e : max s (plane + 1) ≡ s = omega (arith, lt) in
      (λ i. no_bit s plane 1 (omega (arith, lt)) i + no_bit s plane 2 (omega (arith, lt)) i) ∙
      (λ i. sym (no_bit s s 2 (omega arith)) i + sym (no_bit s s 3 (omega arith)) i) ∙ rest_bits s s ∙ ap (ac_rest s) (sym e)
  | inr le ↦
      let e : max s (plane + 1) ≡ plane + 1 = omega (arith, le) in
      (λ i. next 1 i + next 2 i) ∙ rest_bits s (plane + 1) ∙ ap (ac_rest s) (sym e)
]
  where
    next : (down : ℕ) → bit_from s plane down ≡ bit_from s (plane + 1) (down + 1)
    next down =
        let a : nat_le (s + down) plane ≡ nat_le (s + (down + 1)) (plane + 1) = grind (arith, nat_tests) in
        let b : plane - down ≡ plane + 1 - (down + 1) = omega arith in
        λ i. if a i then 2 ^ b i else 0

-- what the three masks give a number that is not 0: `given` says whether the plane gave a bit of it
pub rest_given : (s plane : ℕ) (above given c1 c2 c3 : Bool) → (1 ≤ plane → c1 ≡ nat_le s (plane - 1)) → (2 ≤ plane → c2 ≡ nat_le s (plane - 2)) →
    (3 ≤ plane → c3 ≡ nat_le s (plane - 3)) → above ≡ true →
    weight_below plane 1 ((not given && above) && c1) + weight_below plane 2 (above && c2) + weight_below plane 3 ((above && given) && c3) ≡
    ac_rest s (if given then plane else max s (plane + 1))
rest_given s plane true true c1 c2 c3 one two three e =
    let none : 0 + bit_from s plane 2 + bit_from s plane 3 ≡ bit_from s plane 2 + bit_from s plane 3 = omega arith in
    (λ i. 0 + coded_weight s plane 2 c2 two i + coded_weight s plane 3 c3 three i) ∙ none ∙ rest_bits s plane
rest_given s plane true false c1 c2 c3 one two three e =
    let none : bit_from s plane 1 + bit_from s plane 2 + 0 ≡ bit_from s plane 1 + bit_from s plane 2 = omega arith in
    (λ i. coded_weight s plane 1 c1 one i + coded_weight s plane 2 c2 two i + 0) ∙ none ∙ above_bits s plane
rest_given s plane false given c1 c2 c3 one two three e = absurd (grind (arith, nat_tests))

-- and a number that is 0
pub rest_none : (plane : ℕ) (above given c1 c2 c3 : Bool) → above ≡ false →
    weight_below plane 1 ((not given && above) && c1) + weight_below plane 2 (above && c2) + weight_below plane 3 ((above && given) && c3) ≡ 0
rest_none plane false true c1 c2 c3 e = refl
rest_none plane false false c1 c2 c3 e = refl
rest_none plane true given c1 c2 c3 e = absurd (grind (arith, nat_tests))

-- ---- a number of a sign and a magnitude

pub restored_signed : (s low : ℕ) (minus : Bool) (size : ℕ) → 0 < size → restored_ac s (Some low) (signed minus size) ≡ signed minus (size + ac_rest s low)
restored_signed s low minus zero some = absurd (omega (arith, some))
restored_signed s low true (suc n) some = let e : suc n + ac_rest s low ≡ suc (n + ac_rest s low) = omega arith in ap (λ m. neg_ℤ (pos m)) (sym e)
restored_signed s low false (suc n) some = refl

pub restored_zero : (s : ℕ) (low : Option ℕ) (minus : Bool) → restored_ac s low (signed minus 0) ≡ signed minus 0
restored_zero s (Some low) true = refl
restored_zero s (Some low) false = refl
restored_zero s None minus = refl

-- ---- half of an interval

half_up : (s u : ℕ) → 2 ^ s * (2 ^ (s + suc u - s) / 2) ≡ 2 ^ (s + u)
half_up s u =
    let e : s + suc u - s ≡ suc u = omega arith in
    let half : (x : ℕ) → 2 * x / 2 ≡ x = λ x. omega arith in
    ap (λ n. 2 ^ s * (2 ^ n / 2)) e ∙ ap (λ n. 2 ^ s * (n / 2)) (pow-succ' 2 u) ∙ ap (λ n. 2 ^ s * n) (half (2 ^ u)) ∙ sym (pow-add 2 s u)

pub restored_half : (s low : ℕ) (dc : ℤ) → s < low → restored_dc s (Some (max s low)) dc ≡ dc +ℤ pos (2 ^ (low - 1))
restored_half s low dc lt =
    let u = low - suc s in
    let e : max s low ≡ s + suc u = omega (arith, lt) in
    let same : s + u ≡ low - 1 = omega (arith, lt) in
    ap (λ n. dc +ℤ pos (2 ^ s * (2 ^ (n - s) / 2))) e ∙ ap (λ n. dc +ℤ pos n) (half_up s u ∙ ap (λ n. 2 ^ n) same)

pub restored_whole : (s low : ℕ) (dc : ℤ) → low ≤ s → restored_dc s (Some (max s low)) dc ≡ dc
restored_whole s low dc le =
    let e : max s low - s ≡ 0 = omega (arith, le) in
    let none : 2 ^ s * 0 ≡ 0 = omega arith in
    let same : dc +ℤ pos 0 ≡ dc = omega (arith, ints) in
    ap (λ n. dc +ℤ pos (2 ^ s * (2 ^ n / 2))) e ∙ ap (λ n. dc +ℤ pos n) none ∙ same
