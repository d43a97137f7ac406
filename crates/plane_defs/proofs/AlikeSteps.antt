-- What holds of each number of a list, and of the members of sets that are not significant.
use Rattle.std.proofs.Common.{◌≡◌, ℕ, zero, suc, ◌+◌, ◌<◌, ◌≤◌, inl, inr, Bool, true, false, cond, List, [], ◌∷◌, ◌++◌, refl, ap, sym}
use Rattle.std.proofs.Common.{◌∙◌, subst, arith, ℤ, map, filter}
use Rattle.std.specs.List.{list_any, AllByRecursion}
use Rattle.std.proofs.lemmas.Bool.{cases_lt, or_parts}
use Rattle.std.proofs.lemmas.List.Folds.{list_any-append}
use Rattle.plane_defs.specs.declared.sets.Set.TheVariants.{Family, Quad}
use Rattle.plane_defs.specs.Spans.{span}
use Rattle.plane_defs.specs.Sets.{significant, set_significant}
use Rattle.plane_defs.specs.Sets.{children_of, grandchildren_of, quad_of}

-- ---- lists of steps alike

pub all_both : {X : Type 0} (P Q : X → Type 0) (xs : List X) → AllByRecursion P xs → AllByRecursion Q xs → AllByRecursion (λ x. P x × Q x) xs
all_both P Q [] p q = tt
all_both P Q (x ∷ xs) p q = ((p.0, q.0), all_both P Q xs p.1 q.1)

pub of_filter : {X : Type 0} (P : X → Type 0) (p : X → Bool) (xs : List X) → AllByRecursion P (filter p xs) → AllByRecursion (λ x. p x ≡ true → P x) xs
of_filter P p [] all = tt
of_filter {X} P p (x ∷ xs) all = (λ h. chosen (p x) h all, of_filter P p xs (rest (p x) all))
  where
    chosen : (b : Bool) → b ≡ true → AllByRecursion P (cond b (x ∷ filter p xs) (filter p xs)) → P x
    chosen true h all = all.0
    chosen false h all = absurd cc

    rest : (b : Bool) → AllByRecursion P (cond b (x ∷ filter p xs) (filter p xs)) → AllByRecursion P (filter p xs)
    rest true all = all.1
    rest false all = all

pub none_any : (p : ℕ → Bool) (xs : List ℕ) → list_any p xs ≡ false → AllByRecursion (λ x. p x ≡ false) xs
none_any p [] h = tt
none_any p (x ∷ xs) h = ((or_parts (p x) (list_any p xs) h).0, none_any p xs (or_parts (p x) (list_any p xs) h).1)

pub map_equal : {X A : Type 0} (f g : X → A) (xs : List X) → AllByRecursion (λ x. f x ≡ g x) xs → map f xs ≡ map g xs
map_equal f g [] same = refl
map_equal f g (x ∷ xs) same = ap (λ a. a ∷ map f xs) same.0 ∙ ap (λ l. g x ∷ l) (map_equal f g xs same.1)

pub true_false : true ≡ false → ⊥
true_false e = cc

pub left_all : {X : Type 0} (P : X → Type 0) (xs ys : List X) → AllByRecursion P (xs ++ ys) → AllByRecursion P xs × AllByRecursion P ys
left_all P [] ys all = (tt, all)
left_all P (x ∷ xs) ys all = let r = left_all P xs ys all.1 in ((all.0, r.0), r.1)

pub at_span : (P : ℕ → Type 0) (start count p : ℕ) → AllByRecursion P (span start count) → start ≤ p → p < start + count → P p
unfolding span
at_span P start zero p all low high = absurd (omega arith)
at_span P start (suc count) p all low high =
    let parts = left_all P (span start count) ((start + count) ∷ []) all in
    elim (cases_lt p (start + count)) [
      | inl before ↦ at_span P start count p parts.0 low before
      | inr last ↦ let here : start + count ≡ p = omega arith in subst P here parts.1.0
    ]

-- ---- what each set depends on

-- a set that is not significant has no significant member
pub in_family : (w : List ℤ) (plane i : ℕ) → set_significant w plane (Family i) ≡ false → list_any (significant w plane) (span (children_of i) 4) ≡ false
unfolding set_significant
in_family w plane i h = (or_parts _ _ (sym (list_any-append (significant w plane) (span (children_of i) 4) (span (grandchildren_of i) 16)) ∙ h)).0

pub in_quad : (w : List ℤ) (plane i j : ℕ) → set_significant w plane (Quad i j) ≡ false → list_any (significant w plane) (span (quad_of i j) 4) ≡ false
unfolding set_significant
in_quad w plane i j h = h
