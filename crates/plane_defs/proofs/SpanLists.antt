-- A span grows by one position at its end.
use Rattle.std.proofs.Common.{◌≡◌, ℕ, suc, ◌+◌, Bool, false, List, [], ◌∷◌, ◌++◌, refl, ap, add-one, arith, cond, length, length-append, ◌≤◌, ◌<◌, zero}
use Rattle.std.proofs.Common.{get_or, sum_by, ◌||◌, map, filter}
use Rattle.std.specs.List.{list_any, flat_map}
use Rattle.std.proofs.lemmas.List.Folds.{list_any-append}
use Rattle.std.proofs.lemmas.List.Elements.{filter-append}
use Rattle.std.proofs.lemmas.List.{map-append, append-nil}
use Rattle.std.proofs.lemmas.Grind.{flat_map-append}
use Rattle.std.proofs.Common.{◌⊎◌, inl, inr, ◌∙◌, sym, append_assoc}
use Rattle.std.proofs.lemmas.Bool.{cases_lt}
use Rattle.std.proofs.lemmas.List.Sums.{sum_by-append}
use Rattle.std.proofs.lemmas.List.{get_or_append_left}
use Rattle.std.proofs.Math.Seq.{get_or-append_seam}
use Rattle.std.proofs.Math.Bool.{or-false}
use Rattle.std.proofs.lemmas.Bool.Decides.{nat_tests}
use Rattle.plane_defs.specs.Spans.{span}

pub span-suc : (start count : ℕ) → span start (count + 1) ≡ span start count ++ (start + count) ∷ []
unfolding span
span-suc start count = rw add-one

pub list_any-span-suc : (p : ℕ → Bool) (start count : ℕ) → list_any p (span start (count + 1)) ≡ (list_any p (span start count) || p (start + count))
list_any-span-suc p start count = grind (arith, nat_tests, span-suc, list_any-append, or-false)

pub filter-span-suc : (p : ℕ → Bool) (start count : ℕ) → filter p (span start (count + 1)) ≡ filter p (span start count) ++ cond (p (start + count))
    ((start + count) ∷ []) []
filter-span-suc p start count = rw (span-suc, filter-append)

pub flat_map-span-suc : {A : Type 0} (f : ℕ → List A) (start count : ℕ) → flat_map f (span start (count + 1)) ≡ flat_map f (span start count)
    ++ f (start + count)
flat_map-span-suc f start count = grind (arith, nat_tests, span-suc, flat_map-append, append-nil)

pub list_any-span-none : (p : ℕ → Bool) (start : ℕ) → list_any p (span start 0) ≡ false
unfolding span
list_any-span-none p start = refl

pub flat_map-span-none : {A : Type 0} (f : ℕ → List A) (start : ℕ) → flat_map f (span start 0) ≡ []
unfolding span
flat_map-span-none f start = refl

pub filter-span-none : (p : ℕ → Bool) (start : ℕ) → filter p (span start 0) ≡ []
unfolding span
filter-span-none p start = refl

sum_by-last : (f : ℕ → ℕ) (xs : List ℕ) (y : ℕ) → sum_by f (xs ++ y ∷ []) ≡ sum_by f xs + f y
sum_by-last f xs y = sum_by-append f xs (y ∷ []) ∙ ap (λ n. sum_by f xs + n) (omega arith)

pub sum_by-span-suc : (f : ℕ → ℕ) (start count : ℕ) → sum_by f (span start (count + 1)) ≡ sum_by f (span start count) + f (start + count)
sum_by-span-suc f start count = ap (sum_by f) (span-suc start count) ∙ sum_by-last f (span start count) (start + count)

pub sum_by-span-none : (f : ℕ → ℕ) (start : ℕ) → sum_by f (span start 0) ≡ 0
unfolding span
sum_by-span-none f start = refl

-- the chosen elements with one more position
pub map-filter-span-suc : {A : Type 0} (f : ℕ → A) (p : ℕ → Bool) (start count : ℕ) →
    map f (filter p (span start (count + 1))) ≡ map f (filter p (span start count)) ++ cond (p (start + count)) (f (start + count) ∷ []) []
map-filter-span-suc f p start count = grind (arith, nat_tests, filter-span-suc, map-append)

pub map-filter-span-passed : {A : Type 0} (f : ℕ → A) (p : ℕ → Bool) (start count : ℕ) → p (start + count) ≡ false →
    map f (filter p (span start (count + 1))) ≡ map f (filter p (span start count))
map-filter-span-passed f p start count h = rw (map-filter-span-suc f p start count, h) (append-nil _)

pub map-filter-span-none : {A : Type 0} (f : ℕ → A) (p : ℕ → Bool) (start : ℕ) → map f (filter p (span start 0)) ≡ []
unfolding span
map-filter-span-none f p start = refl

at_most_one : {A : Type 0} (b : Bool) (x : A) → length (cond b (x ∷ []) []) ≤ 1
at_most_one b x = grind (arith, nat_tests)

-- no more elements are chosen than there are
pub length-chosen : {A : Type 0} (f : ℕ → A) (p : ℕ → Bool) (start count : ℕ) → length (map f (filter p (span start count))) ≤ count
length-chosen f p start zero = rw map-filter-span-none (omega arith)
length-chosen {A = A} f p start (suc count) =
    let more : length (map f (filter p (span start (count + 1)))) ≤ count + 1 =
    rw (map-filter-span-suc f p start count, length-append)
    (omega (arith, length-chosen f p start count, at_most_one (p (start + count)) (f (start + count)))) in
    rw (← add-one) more

one_more : {X A : Type 0} (f : X → A) (b : Bool) (x : X) (kept : List X) (n : ℕ) → length (map f kept) ≤ n → length (map f (cond b (x ∷ kept) kept)) ≤ n + 1
one_more f b x kept n h = grind (arith, nat_tests)

pub length-map-filter : {X A : Type 0} (f : X → A) (p : X → Bool) (xs : List X) → length (map f (filter p xs)) ≤ length xs
length-map-filter f p [] = omega arith
length-map-filter f p (x ∷ xs) = omega (arith, one_more f (p x) x (filter p xs) (length xs) (length-map-filter f p xs))

-- a function at each number of a span from 0
pub length-map-span : {A : Type 0} (f : ℕ → A) (count : ℕ) → length (map f (span 0 count)) ≡ count
unfolding span
length-map-span f zero = refl
length-map-span f (suc count) = rw (map-append, length-append, length-map-span f count) (omega arith)

pub get_or-map-span : {A : Type 0} (f : ℕ → A) (count k : ℕ) (d : A) → k < count → get_or (map f (span 0 count)) k d ≡ f k
unfolding span
get_or-map-span f zero k d below = absurd (omega arith)
get_or-map-span f (suc count) k d below =
    rw map-append (by_place (cases_lt k count) (λ lt. get_or-map-span f count k d lt))
  where
    by_place : (k < count) ⊎ (count ≤ k) → (k < count → get_or (map f (span 0 count)) k d ≡ f k) → get_or (map f (span 0 count) ++ f (0 + count) ∷ []) k d ≡ f k
    by_place (inl lt) before =
        let short : k < length (map f (span 0 count)) = omega (arith, length-map-span f count) in
        get_or_append_left (map f (span 0 count)) (f (0 + count) ∷ []) d k short ∙ before lt
    by_place (inr ge) before =
        let e : k ≡ count = omega arith in
        let here : k ≡ length (map f (span 0 count)) = omega (arith, length-map-span f count) in
        ap (λ i. get_or (map f (span 0 count) ++ f (0 + count) ∷ []) i d) here ∙ get_or-append_seam (map f (span 0 count)) (f (0 + count)) [] d
        ∙ ap f (omega arith)

-- what the places of a span send: those before one, that one, and the rest
pub flat_map-span-parts : {A : Type 0} (f : ℕ → List A) (start count place : ℕ) → place < count →
    (rest : List A) × (flat_map f (span start count) ≡ (flat_map f (span start place) ++ f (start + place)) ++ rest)
flat_map-span-parts f start zero place below = absurd (omega arith)
flat_map-span-parts {A = A} f start (suc count) place below = by_place (cases_lt place count) (λ lt. flat_map-span-parts f start count place lt)
  where
    by_place : (place < count) ⊎ (count ≤ place) →
        (place < count → (rest : List A) × (flat_map f (span start count) ≡ (flat_map f (span start place) ++ f (start + place)) ++ rest)) →
        (rest : List A) × (flat_map f (span start (suc count)) ≡ (flat_map f (span start place) ++ f (start + place)) ++ rest)
    by_place (inl lt) before =
        let r = before lt in (
          r.0 ++ f (start + count),
          ap (λ n. flat_map f (span start n)) (sym (add-one count)) ∙ flat_map-span-suc f start count ∙ ap (λ l. l ++ f (start + count)) r.1 ∙
              append_assoc (flat_map f (span start place) ++ f (start + place)) r.0 (f (start + count)),
        )
    by_place (inr ge) before =
        let e : count ≡ place = omega arith in (
          [],
          ap (λ n. flat_map f (span start n)) (sym (add-one count)) ∙ flat_map-span-suc f start count ∙
              ap (λ k. flat_map f (span start k) ++ f (start + k)) e ∙ sym (append-nil (flat_map f (span start place) ++ f (start + place))),
        )
