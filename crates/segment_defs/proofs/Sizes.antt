-- The size of a number.
use Rattle.std.proofs.Common.{◌≡◌, ◌⊎◌, ℕ, zero, suc, ◌+◌, ◌^◌, ◌<◌, ◌≤◌, Bool, true, false, length, take, sym, ap, ◌∙◌, inl, inr, arith, get_or, subst}
use Rattle.std.proofs.Common.{min, add-one, nat_le, pow_mono}
use Rattle.std.proofs.lemmas.Bool.{cases_lt}
use Rattle.std.specs.List.{count_by, range_with_len}
use Rattle.std.proofs.lemmas.Bool.Decides.{nat_tests}
use Rattle.std.proofs.lemmas.List.Sums.{count_by_more_no, count_by_more_yes}
use Rattle.std.proofs.lemmas.List.FromFn.{get_or-range_with_len, length-range_with_len}
use Rattle.std.proofs.Math.Seq.{take-length}
use Rattle.segment_defs.specs.Size.{size_of}
use Rattle.segment_defs.specs.Laws.{SizeIsLeast}

-- m bits hold n, and no fewer do
pub record IsSize (n m : ℕ) : Type 0 where
  pub within : m ≤ n
  pub holds : n < 2 ^ m
  pub least : (k : ℕ) → k < m → 2 ^ k ≤ n

some_size : (n : ℕ) → (m : ℕ) × IsSize n m
some_size zero = (0, record { within = omega arith; holds = omega arith; least = λ k h. absurd (omega arith) })
some_size (suc n) =
    let p = some_size n in
    let m = p.0 in
    let s = p.1 in
    elim (below_or_at n m s.holds) [
      | inl lt ↦ (m, record { within = omega (arith, s.within); holds = lt; least = λ k h. omega (arith, s.least k h) })
      | inr at ↦ (
        suc m,
        record {
          within = omega (arith, s.within);
          holds = omega (arith, at);
          least = λ k h. omega (arith, at, pow_mono {i = k} {j = m} (omega arith));
        },
      )
    ]
  where
    below_or_at : (n m : ℕ) → n < 2 ^ m → (suc n < 2 ^ m) ⊎ (suc n ≡ 2 ^ m)
    below_or_at n m h = grind arith

section_of_first : (p : ℕ → Bool) (m n i : ℕ) → m ≤ n → ((k : ℕ) → k < m → p k ≡ true) → ((k : ℕ) → m ≤ k → p k ≡ false) → i ≤ n →
    count_by p (take i (range_with_len 0 n)) ≡ min i m
section_of_first p m n zero le below above h = omega arith
section_of_first p m n (suc i) le below above h =
    let at : get_or (range_with_len 0 n) i 0 ≡ 0 + i = get_or-range_with_len 0 n i 0 (omega arith) in
    let here : get_or (range_with_len 0 n) i 0 ≡ i = omega arith in
    let room : i < length (range_with_len 0 n) = omega (arith, length-range_with_len 0 n) in
    let before = section_of_first p m n i le below above (omega arith) in
    elim (cases_lt i m) [
      | inl lt ↦
          let e = count_by_more_yes p (range_with_len 0 n) i 0 room (ap p here ∙ below i lt) in
          subst (λ k. count_by p (take k (range_with_len 0 n)) ≡ min k m) (add-one i) (let t : count_by p (take (i + 1) (range_with_len 0 n)) ≡ min (i + 1)
          m = omega (arith, e, before) in t)
      | inr ge ↦
          let e = count_by_more_no p (range_with_len 0 n) i 0 room (ap p here ∙ above i ge) in
          subst (λ k. count_by p (take k (range_with_len 0 n)) ≡ min k m) (add-one i) (let t : count_by p (take (i + 1) (range_with_len 0 n)) ≡ min (i + 1)
          m = omega (arith, e, before) in t)
    ]

-- a test that only holds of the numbers below m, counted over the first n numbers
pub count_by-first : (p : ℕ → Bool) (m n : ℕ) → m ≤ n → ((k : ℕ) → k < m → p k ≡ true) → ((k : ℕ) → m ≤ k → p k ≡ false) →
    count_by p (range_with_len 0 n) ≡ m
count_by-first p m n le below above =
    let all : take n (range_with_len 0 n) ≡ range_with_len 0 n = subst (λ k. take k (range_with_len 0 n) ≡ range_with_len 0 n) (length-range_with_len 0 n)
    (take-length (range_with_len 0 n)) in
    let e = section_of_first p m n n le below above (omega arith) in
    omega (arith, e, ap (count_by p) all)

pub size_of-is : (n m : ℕ) → IsSize n m → size_of n ≡ m
unfolding size_of
size_of-is n m s =
    count_by-first (λ k. nat_le (2 ^ k) n) m n s.within
    (λ k h. let under = s.least k h in grind (arith, nat_tests))
    (λ k h. let over : n < 2 ^ k = omega (arith, s.holds, pow_mono {i = m} {j = k} h) in grind (arith, nat_tests))

pub size_is : (n : ℕ) → IsSize n (size_of n)
size_is n = let p = some_size n in subst (IsSize n) (sym (size_of-is n p.0 p.1)) p.1

-- the size is at most any d with n below 2 ^ d
pub size_of-least : (n d : ℕ) → n < 2 ^ d → size_of n ≤ d
size_of-least n d h =
    let s = size_is n in
    elim (cases_lt d (size_of n)) [ inl lt ↦ absurd (omega (arith, s.least d lt, h)) | inr ge ↦ ge ]

pub size_of-unique : (n m : ℕ) → n < 2 ^ m → ((k : ℕ) → k < m → 2 ^ k ≤ n) → size_of n ≡ m
size_of-unique n m holds least =
    let s = size_is n in
    elim (cases_lt (size_of n) m) [
      | inl lt ↦ absurd (omega (arith, least (size_of n) lt, s.holds))
      | inr ge ↦ let le = size_of-least n m holds in omega arith
    ]

pub size_of-mono : (a b : ℕ) → a ≤ b → size_of a ≤ size_of b
size_of-mono a b le = size_of-least a (size_of b) (omega (arith, (size_is b).holds))

pub size_law : SizeIsLeast
size_law = record { holds = λ n. (size_is n).holds; least = size_of-least }
