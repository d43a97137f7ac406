-- The first option with the least cost is the cheapest.
use Rattle.std.proofs.Common.{◌≡◌, ℕ, zero, suc, ◌+◌, ◌<◌, ◌≤◌, ◌⊎◌, inl, inr, Bool, true, false, cond, List, [], ◌∷◌, ◌++◌, refl, sym, ap, ◌∙◌, arith}
use Rattle.std.proofs.Common.{get_or, add-one, zero-add, filter, nat_le}
use Rattle.std.specs.List.{list_all}
use Rattle.base_122.specs.declared.book.Book.{Book}
use Rattle.plane_defs.specs.Spans.{span}
use Rattle.plane_defs.specs.Choice.{cost, is_cheapest, cheapest}
use Rattle.plane_defs.proofs.SpanLists.{filter-span-suc}
use Rattle.plane_defs.proofs.Tables.{list_all-span, list_all-span-zero}
use Rattle.std.proofs.lemmas.Bool.{le-leb, lt-leb}
use Rattle.plane_defs.proofs.ReadOnce.{below_or_at}

-- none is chosen before the first
none_before : (p : ℕ → Bool) (count : ℕ) → ((k : ℕ) → k < count → p k ≡ false) → filter p (span 0 count) ≡ []
unfolding span
none_before p zero each = refl
none_before p (suc count) each =
    let before = none_before p count (λ k lt. each k (omega arith)) in
    let last : p (0 + count) ≡ false = ap p (zero-add count) ∙ each count (omega arith) in
    ap (λ n. filter p (span 0 n)) (sym (add-one count)) ∙ filter-span-suc p 0 count ∙ rw (before, last) refl

-- the first that is chosen
abbrev IsFirst : ℕ → List ℕ → Type 0
IsFirst m xs = (rest : List ℕ) × (xs ≡ m ∷ rest)

first_of : (p : ℕ → Bool) (count m : ℕ) → m < count → ((k : ℕ) → k < m → p k ≡ false) → p m ≡ true → IsFirst m (filter p (span 0 count))
first_of p zero m below before here = absurd (omega arith)
first_of p (suc count) m below before here =
    let more : filter p (span 0 (suc count)) ≡ filter p (span 0 count) ++ cond (p (0 + count)) ((0 + count) ∷ []) [] =
    ap (λ n. filter p (span 0 n)) (sym (add-one count)) ∙ filter-span-suc p 0 count in
    by_place more (below_or_at m count below) (λ lt. first_of p count m lt before here)
  where
    by_place : filter p (span 0 (suc count)) ≡ filter p (span 0 count) ++ cond (p (0 + count)) ((0 + count) ∷ []) [] →
        (m < count) ⊎ (m ≡ count) → (m < count → IsFirst m (filter p (span 0 count))) → IsFirst m (filter p (span 0 (suc count)))
    by_place more (inl lt) rest =
        let r = rest lt in (r.0 ++ cond (p (0 + count)) ((0 + count) ∷ []) [], more ∙ ap (λ l. l ++ cond (p (0 + count)) ((0 + count) ∷ []) []) r.1)
    by_place more (inr e) rest =
        let place : 0 + count ≡ m = omega arith in
        let last : p (0 + count) ≡ true = ap p place ∙ here in
        let none : filter p (span 0 count) ≡ [] = none_before p count (λ k lt. before k (omega arith)) in
        ([], more ∙ rw (none, last) (ap (λ k. k ∷ []) place))

-- a place that fails makes the span fail
fails_at : (p : ℕ → Bool) (count k : ℕ) (b : Bool) → k < count → p k ≡ false → list_all p (span 0 count) ≡ b → b ≡ false
fails_at p count k true below fails all = let passes = list_all-span-zero p count k all below in cc
fails_at p count k false below fails all = refl

-- an option is the choice if no option costs less and each option before it costs more
pub cheapest_is : (book : Book) (length : ℕ) (counts : List ℕ) (best : ℕ) → best < length →
    ((other : ℕ) → other < length → cost book length counts best ≤ cost book length counts other) →
    ((other : ℕ) → other < best → cost book length counts best < cost book length counts other) →
    best ≡ cheapest book length counts
unfolding cheapest is_cheapest
cheapest_is book length counts best known fewest least =
    let here : is_cheapest book length counts best ≡ true =
    list_all-span (λ other. nat_le (cost book length counts best) (cost book length counts other)) length
    (λ other lt. le-leb (cost book length counts best) (cost book length counts other) (fewest other lt)) in
    let before : (k : ℕ) → k < best → is_cheapest book length counts k ≡ false = λ k lt.
    fails_at (λ other. nat_le (cost book length counts k) (cost book length counts other)) length best (is_cheapest book length counts k) known
    (lt-leb (cost book length counts k) (cost book length counts best) (least k lt)) refl in
    let r = first_of (is_cheapest book length counts) length best known before here in
    sym (ap (λ l. get_or l 0 0) r.1)
