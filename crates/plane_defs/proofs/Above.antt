-- What holds of each number of a span, and of each member of a set.
use Rattle.std.proofs.Common.{◌≡◌, ℕ, zero, suc, ◌+◌, ◌<◌, ◌≤◌, Bool, List, [], ◌∷◌, ◌++◌, refl, ap, ◌∙◌, arith, ◌||◌}
use Rattle.std.specs.List.{list_any, AllByRecursion}
use Rattle.plane_defs.specs.declared.sets.Set.{Set}
use Rattle.plane_defs.specs.declared.sets.Set.TheVariants.{Descendants, Family, Grandchildren, Quad}
use Rattle.plane_defs.specs.Spans.{span}
use Rattle.plane_defs.specs.Sets.{members}
use Rattle.plane_defs.specs.Sets.{IsKnown, children_of, grandchildren_of, quad_of}
use Rattle.plane_defs.specs.StepLaws.{IsAc}

pub all_append : {X : Type 0} (P : X → Type 0) (xs ys : List X) → AllByRecursion P xs → AllByRecursion P ys → AllByRecursion P (xs ++ ys)
all_append P [] ys p q = q
all_append P (x ∷ xs) ys p q = (p.0, all_append P xs ys p.1 q)

pub all_span : (P : ℕ → Type 0) (start count : ℕ) → ((k : ℕ) → start ≤ k → k < start + count → P k) → AllByRecursion P (span start count)
unfolding span
all_span P start zero each = tt
all_span P start (suc count) each =
    all_append P (span start count) ((start + count) ∷ []) (all_span P start count (λ k low high. each k low (omega arith)))
    (each (start + count) (omega arith) (omega arith), tt)

pub all_acs : (start count : ℕ) → 1 ≤ start → start + count ≤ 64 → AllByRecursion IsAc (span start count)
all_acs start count low high = all_span IsAc start count (λ k from to. (omega arith, omega arith))

pub members_acs : (s : Set) → IsKnown s → AllByRecursion IsAc (members s)
members_acs Descendants known = all_acs 4 60 (omega arith) (omega arith)
members_acs (Family i) known =
    all_append IsAc (span (children_of i) 4) (span (grandchildren_of i) 16) (all_acs (children_of i) 4 (omega arith) (omega arith))
    (all_acs (grandchildren_of i) 16 (omega arith) (omega arith))
members_acs (Grandchildren i) known = all_acs (grandchildren_of i) 16 (omega arith) (omega arith)
members_acs (Quad i j) known = all_acs (quad_of i j) 4 (omega arith) (omega (arith, known.0, known.1))

pub any_alike : {P : ℕ → Type 0} (p q : ℕ → Bool) (xs : List ℕ) → AllByRecursion P xs → ((n : ℕ) → P n → p n ≡ q n) → list_any p xs ≡ list_any q xs
any_alike p q [] all same = refl
any_alike p q (x ∷ xs) all same = ap (λ b. b || list_any p xs) (same x all.0) ∙ ap (λ b. q x || b) (any_alike p q xs all.1 same)

pub all_zip : {X : Type 0} {P Q : X → Type 0} (xs : List X) → ((x : X) → P x → Q x) → AllByRecursion P xs → AllByRecursion Q xs
all_zip [] f all = tt
all_zip (x ∷ xs) f all = (f x all.0, all_zip xs f all.1)
