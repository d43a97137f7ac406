-- Tests over lists of numbers.
use Rattle.std.proofs.Common.{◌≡◌, ◌≤◌, ◌<◌, ◌+◌, ℕ, zero, suc, Bool, true, false, List, [], ◌∷◌, map, refl, sym, ap, ◌∙◌, inl, inr, arith, cond, ◌&&◌}
use Rattle.std.proofs.Common.{◌||◌, filter}
use Rattle.std.specs.List.{range_with_len, list_any, prefix_len}
use Rattle.std.proofs.lemmas.Bool.{cases_lt, false≢true, or_right, or_left}
use Rattle.std.proofs.lemmas.List.FromFn.{length-range_with_len, get_or-range_with_len}
use Rattle.std.proofs.lemmas.List.Sums.{prefix_len-le-length, prefix_len_passes}
use Rattle.std.proofs.lemmas.Bool.Decides.{nat_tests}

-- ---- two tests

pub and_first : (a b : Bool) → (a && b) ≡ true → a ≡ true
and_first a b e = grind (arith, nat_tests)

pub and_second : (a b : Bool) → (a && b) ≡ true → b ≡ true
and_second a b e = grind (arith, nat_tests, false≢true)

pub same_tests : (a b : Bool) → (a ≡ true → b ≡ true) → (b ≡ true → a ≡ true) → a ≡ b
same_tests a b there back = grind (arith, nat_tests)

-- ---- one of some passes

pub any_map : {A B : Type 0} (f : B → Bool) (g : A → B) (xs : List A) → list_any f (map g xs) ≡ list_any (λ x. f (g x)) xs
any_map f g [] = refl
any_map f g (x ∷ xs) = ap (λ b. f (g x) || b) (any_map f g xs)

pub any_filter : {A : Type 0} (f p : A → Bool) (xs : List A) → list_any f (filter p xs) ≡ list_any (λ x. p x && f x) xs
any_filter f p [] = refl
any_filter f p (x ∷ xs) = by (p x) (any_filter f p xs)
  where
    by : (b : Bool) → list_any f (filter p xs) ≡ list_any (λ y. p y && f y) xs → list_any f (cond b (x ∷ filter p xs) (filter p xs))
        ≡ ((b && f x) || list_any (λ y. p y && f y) xs)
    by true e = ap (λ b. f x || b) e
    by false e = e

-- a number of n from a on that passes
pub record Hit (f : ℕ → Bool) (a n : ℕ) : Type 0 where
  pub place : ℕ
  pub least : a ≤ place
  pub most : place < a + n
  pub passes : f place ≡ true

pub any_some : (f : ℕ → Bool) (a n : ℕ) → list_any f (range_with_len a n) ≡ true → Hit f a n
any_some f a zero e = absurd (false≢true e)
any_some f a (suc n) e = by (f a) refl (any_some f (a + 1) n) e
  where
    by : (b : Bool) → f a ≡ b → (list_any f (range_with_len (a + 1) n) ≡ true → Hit f (a + 1) n) → (b || list_any f (range_with_len (a + 1) n)) ≡ true →
        Hit f a (suc n)
    by true t rest e = record { place = a; least = omega arith; most = omega arith; passes = t }
    by false t rest e =
        let h = rest e in
        record { place = h.place; least = omega (arith, h.least); most = omega (arith, h.most); passes = h.passes }

pub any_hit : (f : ℕ → Bool) (a n i : ℕ) → a ≤ i → i < a + n → f i ≡ true → list_any f (range_with_len a n) ≡ true
any_hit f a zero i low high e = absurd (omega (arith, low, high))
any_hit f a (suc n) i low high e = elim (cases_lt a i) [
  | inl later ↦ or_right (f a) (list_any f (range_with_len (a + 1) n)) (any_hit f (a + 1) n i (omega (arith, later)) (omega (arith, high)) e)
  | inr here ↦ let same : i ≡ a = omega (arith, here, low) in or_left (f a) (list_any f (range_with_len (a + 1) n)) (sym (ap f same) ∙ e)
]

-- ---- how many from a on pass one after another

pub prefix_least : (p : ℕ → Bool) (a n m : ℕ) → m ≤ n → ((k : ℕ) → a ≤ k → k < a + m → p k ≡ true) → m ≤ prefix_len p (range_with_len a n)
prefix_least p a n zero le all = omega arith
prefix_least p a zero (suc m) le all = absurd (omega (arith, le))
prefix_least p a (suc n) (suc m) le all =
    let rest = prefix_least p (a + 1) n m (omega (arith, le)) (λ k low high. all k (omega (arith, low)) (omega (arith, high))) in
    let here : p a ≡ true = all a (omega arith) (omega arith) in
    rw here (omega (arith, rest))

pub prefix_most : (p : ℕ → Bool) (a n : ℕ) → prefix_len p (range_with_len a n) ≤ n
prefix_most p a n = omega (arith, prefix_len-le-length p (range_with_len a n), length-range_with_len a n)

pub prefix_all : (p : ℕ → Bool) (a n k : ℕ) → k < prefix_len p (range_with_len a n) → p (a + k) ≡ true
prefix_all p a n k lt =
    let within : k < n = omega (arith, lt, prefix_most p a n) in
    sym (ap p (get_or-range_with_len a n k 0 within)) ∙ prefix_len_passes p (range_with_len a n) k 0 lt

pub prefix_same : (p q : ℕ → Bool) (a n : ℕ) → ((k : ℕ) → a ≤ k → k < a + n → p k ≡ q k) → prefix_len p (range_with_len a n) ≡ prefix_len q (range_with_len a n)
prefix_same p q a zero same = refl
prefix_same p q a (suc n) same =
    ap (λ b. cond b (1 + prefix_len p (range_with_len (a + 1) n)) 0) (same a (omega arith) (omega arith))
    ∙ ap (λ m. cond (q a) (1 + m) 0) (prefix_same p q (a + 1) n (λ k low high. same k (omega (arith, low)) (omega (arith, high))))

-- tests that agree choose the same, and what agrees there makes the same of them
pub chosen_same : {A : Type 0} (f g : ℕ → A) (p q : ℕ → Bool) (a n : ℕ) → ((k : ℕ) → a ≤ k → k < a + n → p k ≡ q k) →
    ((k : ℕ) → a ≤ k → k < a + n → f k ≡ g k) →
    map f (filter p (range_with_len a n)) ≡ map g (filter q (range_with_len a n))
chosen_same f g p q a zero tests made = refl
chosen_same f g p q a (suc n) tests made =
    by (p a) (q a) (tests a (omega arith) (omega arith)) (made a (omega arith) (omega arith))
    (chosen_same f g p q (a + 1) n (λ k low high. tests k (omega (arith, low)) (omega (arith, high)))
    (λ k low high. made k (omega (arith, low)) (omega (arith, high))))
  where
    by : (b c : Bool) → b ≡ c → f a ≡ g a → map f (filter p (range_with_len (a + 1) n)) ≡ map g (filter q (range_with_len (a + 1) n)) →
        map f (cond b (a ∷ filter p (range_with_len (a + 1) n)) (filter p (range_with_len (a + 1) n)))
        ≡ map g (cond c (a ∷ filter q (range_with_len (a + 1) n)) (filter q (range_with_len (a + 1) n)))
    by true true e h rest = ap (λ z. z ∷ map f (filter p (range_with_len (a + 1) n))) h ∙ ap (λ zs. g a ∷ zs) rest
    by true false e h rest = absurd (false≢true (sym e))
    by false true e h rest = absurd (false≢true e)
    by false false e h rest = rest
