-- Sums and counts over spans, and the strings of 8 bits that begin with a code.
use Rattle.std.proofs.lemmas.Bool.Decides.{nat_tests}
use Rattle.std.proofs.Common.{◌≡◌, inl, inr, ◌≤◌, ◌<◌, ◌+◌, ◌-◌, ◌^◌, ◌/◌, ℕ, zero, suc, List, [], ◌∷◌, refl, sym, ap, ◌∙◌, arith, zero-add, add-one}
use Rattle.std.proofs.Common.{if◌then◌else◌, not, Bool, true, false, ◌==◌, ◌||◌, cond, count_by}
use Rattle.std.specs.List.{list_all, sum_by}
use Rattle.std.proofs.lemmas.Bool.{cases_lt, false≢true}
use Rattle.std.proofs.Math.Bool.{or-true}
use Rattle.item_defs.specs.Bits.{bits_of}
use Rattle.plane_defs.specs.Spans.{span}
use Rattle.plane_defs.specs.Codes.{is_prefix}
use Rattle.plane_defs.proofs.SpanLists.{sum_by-span-suc, sum_by-span-none}

-- ---- sums over spans

pub sum_last : (f : ℕ → ℕ) (n : ℕ) → sum_by f (span 0 (n + 1)) ≡ sum_by f (span 0 n) + f n
sum_last f n = sum_by-span-suc f 0 n ∙ ap (λ k. sum_by f (span 0 n) + f k) (zero-add n)

pub sum_suc : (f : ℕ → ℕ) (n : ℕ) → sum_by f (span 0 (suc n)) ≡ sum_by f (span 0 n) + f n
sum_suc f n = ap (λ m. sum_by f (span 0 m)) (sym (add-one n)) ∙ sum_last f n

pub sum_none : (f : ℕ → ℕ) → sum_by f (span 0 0) ≡ 0
sum_none f = sum_by-span-none f 0

pub sum_same : (f g : ℕ → ℕ) (n : ℕ) → ((k : ℕ) → k < n → f k ≡ g k) → sum_by f (span 0 n) ≡ sum_by g (span 0 n)
sum_same f g zero same = sum_none f ∙ sym (sum_none g)
sum_same f g (suc n) same =
    let rest = sum_same f g n (λ k lt. same k (omega (arith, lt))) in
    let here = same n (omega arith) in
    omega (arith, sum_suc f n, sum_suc g n, rest, here)

sum_both : (f g : ℕ → ℕ) (n : ℕ) → sum_by (λ k. f k + g k) (span 0 n) ≡ sum_by f (span 0 n) + sum_by g (span 0 n)
sum_both f g zero = omega (arith, sum_none (λ k. f k + g k), sum_none f, sum_none g)
sum_both f g (suc n) = omega (arith, sum_suc (λ k. f k + g k) n, sum_suc f n, sum_suc g n, sum_both f g n)

sum_zero : (n : ℕ) → sum_by (λ k. 0) (span 0 n) ≡ 0
sum_zero zero = sum_none (λ k. 0)
sum_zero (suc n) = omega (arith, sum_suc (λ k. 0) n, sum_zero n)

-- if at most one is counted in each of n places, n are counted in all only if one is counted in each
sum_most : (f : ℕ → ℕ) (n : ℕ) → ((k : ℕ) → k < n → f k ≤ 1) → sum_by f (span 0 n) ≤ n
sum_most f zero few = omega (arith, sum_none f)
sum_most f (suc n) few = let here = few n (omega arith) in omega (arith, sum_suc f n, sum_most f n (λ k lt. few k (omega (arith, lt))), here)

pub sum_full : (f : ℕ → ℕ) (n k : ℕ) → ((k : ℕ) → k < n → f k ≤ 1) → sum_by f (span 0 n) ≡ n → k < n → f k ≡ 1
sum_full f zero k few full lt = absurd (omega (arith, lt))
sum_full f (suc n) k few full lt =
    let earlier = λ (k : ℕ) (lt : k < n). few k (omega (arith, lt)) in
    let most = sum_most f n earlier in
    let here = few n (omega arith) in
    let last = sum_suc f n in
    elim (cases_lt k n) [
      | inl less ↦ sum_full f n k earlier (omega (arith, full, last, most, here)) less
      | inr far ↦ let e : k ≡ n = omega (arith, far, lt) in ap f e ∙ omega (arith, full, last, most, here)
    ]

pub sum_ones : (f : ℕ → ℕ) (n : ℕ) → ((k : ℕ) → k < n → f k ≡ 1) → sum_by f (span 0 n) ≡ n
sum_ones f zero one = sum_none f
sum_ones f (suc n) one = let here = one n (omega arith) in omega (arith, sum_suc f n, sum_ones f n (λ k lt. one k (omega (arith, lt))), here)

-- pairs that pass are counted row by row or column by column
pub counted_twice : (p : ℕ → ℕ → Bool) (m n : ℕ) → sum_by (λ s. count_by (λ v. p s v) (span 0 n)) (span 0 m)
    ≡ sum_by (λ v. count_by (λ s. p s v) (span 0 m)) (span 0 n)
counted_twice p zero n =
    let columns : sum_by (λ v. count_by (λ s. p s v) (span 0 0)) (span 0 n) ≡ sum_by (λ k. 0) (span 0 n) =
    sum_same (λ v. count_by (λ s. p s v) (span 0 0)) (λ k. 0) n (λ v lt. sum_none (λ s. cond (p s v) 1 0)) in
    sum_none (λ s. count_by (λ v. p s v) (span 0 n)) ∙ sym (columns ∙ sum_zero n)
counted_twice p (suc m) n =
    let row = λ (s : ℕ). count_by (λ v. p s v) (span 0 n) in
    let one = λ (v : ℕ). cond (p m v) 1 0 in
    let before = λ (v : ℕ). count_by (λ s. p s v) (span 0 m) in
    let columns : sum_by (λ v. count_by (λ s. p s v) (span 0 (suc m))) (span 0 n) ≡ sum_by (λ v. before v + one v) (span 0 n) =
    sum_same (λ v. count_by (λ s. p s v) (span 0 (suc m))) (λ v. before v + one v) n (λ v lt. sum_suc (λ s. cond (p s v) 1 0) m) in
    let e = counted_twice p m n in
    omega (arith, sum_suc row m, columns, sum_both before one n, e)

-- ---- at most one of some numbers

count_none : (p : ℕ → Bool) (n : ℕ) → ((k : ℕ) → k < n → p k ≡ false) → count_by p (span 0 n) ≡ 0
count_none p zero none = sum_none (λ k. cond (p k) 1 0)
count_none p (suc n) none =
    let here : cond {A = ℕ} (p n) 1 0 ≡ 0 = ap (λ b. cond b 1 0) (none n (omega arith)) in
    omega (arith, sum_suc (λ k. cond (p k) 1 0) n, count_none p n (λ k lt. none k (omega (arith, lt))), here)

pub count_once : (p : ℕ → Bool) (n : ℕ) → ((j k : ℕ) → j < n → k < n → p j ≡ true → p k ≡ true → j ≡ k) → count_by p (span 0 n) ≤ 1
count_once p zero once = omega (arith, sum_none (λ k. cond (p k) 1 0))
count_once p (suc n) once =
    by_last (p n) refl (count_once p n (λ j k hj hk. once j k (omega (arith, hj)) (omega (arith, hk)))) (λ e. count_none p n (λ k lt. other k (p k) refl e lt))
  where
    other : (k : ℕ) (b : Bool) → p k ≡ b → p n ≡ true → k < n → p k ≡ false
    other k b h1 h2 h3 = grind (arith, nat_tests)

    by_last : (b : Bool) → p n ≡ b → count_by p (span 0 n) ≤ 1 → (p n ≡ true → count_by p (span 0 n) ≡ 0) → count_by p (span 0 (suc n)) ≤ 1
    by_last true e rest none =
        let here : cond {A = ℕ} (p n) 1 0 ≡ 1 = ap (λ b. cond b 1 0) e in
        omega (arith, sum_suc (λ k. cond (p k) 1 0) n, none e, here)
    by_last false e rest none =
        let here : cond {A = ℕ} (p n) 1 0 ≡ 0 = ap (λ b. cond b 1 0) e in
        omega (arith, sum_suc (λ k. cond (p k) 1 0) n, rest, here)

-- ---- strings that begin with a code

-- of two prefixes of the same string one is a prefix of the other
pub nested : (xs ys zs : List Bool) → is_prefix xs zs ≡ true → is_prefix ys zs ≡ true → (is_prefix xs ys || is_prefix ys xs) ≡ true
nested [] ys zs f g = refl
nested (x ∷ xs) [] zs f g = or-true (is_prefix (x ∷ xs) [])
nested (x ∷ xs) (y ∷ ys) [] f g = absurd (false≢true f)
nested (true ∷ xs) (true ∷ ys) (true ∷ zs) f g = nested xs ys zs f g
nested (true ∷ xs) (true ∷ ys) (false ∷ zs) f g = absurd (false≢true f)
nested (true ∷ xs) (false ∷ ys) (true ∷ zs) f g = absurd (false≢true g)
nested (true ∷ xs) (false ∷ ys) (false ∷ zs) f g = absurd (false≢true f)
nested (false ∷ xs) (true ∷ ys) (true ∷ zs) f g = absurd (false≢true f)
nested (false ∷ xs) (true ∷ ys) (false ∷ zs) f g = absurd (false≢true g)
nested (false ∷ xs) (false ∷ ys) (true ∷ zs) f g = absurd (false≢true f)
nested (false ∷ xs) (false ∷ ys) (false ∷ zs) f g = nested xs ys zs f g

-- the strings of 8 bits that begin with these bits
abbrev pub begun_by : (len bits : ℕ) → ℕ
begun_by len bits = count_by (λ v. is_prefix (bits_of len bits) (bits_of 8 v)) (span 0 256)

abbrev pub leaves_room : (len : ℕ) → Bool
leaves_room len = list_all (λ bits. begun_by len bits == 2 ^ (8 - len)) (span 0 (2 ^ len))

pub rooms : list_all leaves_room (span 1 8) ≡ true
unfolding span bits_of
rooms = refl

-- a code is a prefix of another one if its bits are the other's first ones: tested for all codes
abbrev pub same : Bool → Bool → Bool
same b c = if b then c else not c

abbrev pub bits_agree : (n m : ℕ) → Bool
bits_agree n m = list_all (λ x. list_all (λ y. same (is_prefix (bits_of n x) (bits_of m y)) (y / 2 ^ (m - n) == x)) (span 0 (2 ^ m))) (span 0 (2 ^ n))

pub all_agree : list_all (λ m. list_all (λ n. bits_agree n m) (span 1 m)) (span 1 8) ≡ true
unfolding span bits_of
all_agree = refl
