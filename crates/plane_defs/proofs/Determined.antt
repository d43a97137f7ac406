-- A set whose flag is not due is significant at a plane exactly if it is at the plane above.
use Rattle.std.proofs.Common.{◌≡◌, ℕ, zero, suc, ◌+◌, ◌*◌, ◌<◌, ◌≤◌, ◌^◌, ◌⊎◌, inl, inr, Bool, true, false, not, ◌&&◌, List, [], ◌∷◌, refl, ap, sym, ◌∙◌}
use Rattle.std.proofs.Common.{subst, arith, ℤ, add-one, nat_le, ◌||◌, mul-suc, pow_pos, pow_mono}
use Rattle.std.specs.List.{list_any}
use Rattle.std.proofs.lemmas.List.Folds.{list_any-append}
use Rattle.std.proofs.lemmas.Bool.{or_left, or_right, or_cases, or_parts}
use Rattle.std.proofs.lemmas.Bool.Decides.{nat_tests}
use Rattle.plane_defs.specs.declared.sets.Set.{Set}
use Rattle.plane_defs.specs.declared.sets.Set.TheVariants.{Descendants, Family, Grandchildren, Quad}
use Rattle.plane_defs.specs.Spans.{span}
use Rattle.plane_defs.specs.Sets.{significant, shift, coded, set_significant, live, enclosing_significant, flag_due, IsKnown}
use Rattle.plane_defs.specs.Laws.{IsMultiple}
use Rattle.plane_defs.proofs.SpanLists.{list_any-span-suc, list_any-span-none}

-- a test that some place of a span passes is passed by the span
pub list_any-span-here : (p : ℕ → Bool) (start count k : ℕ) → k < count → p (start + k) ≡ true → list_any p (span start count) ≡ true
list_any-span-here p start zero k below h = absurd (omega arith)
list_any-span-here p start (suc count) k below h =
    let step = list_any-span-suc p start count in
    let P : ℕ → Type 0 = λ n. list_any p (span start n) ≡ true in
    subst P (add-one count) (step ∙ by_place (last_or_not k count (omega arith)) (λ l. list_any-span-here p start count k l h))
  where
    last_or_not : (k n : ℕ) → k < n + 1 → (k < n) ⊎ (k ≡ n)
    last_or_not k n l = grind arith

    by_place : (k < count) ⊎ (k ≡ count) → (k < count → list_any p (span start count) ≡ true) → (list_any p (span start count) || p (start + count)) ≡ true
    by_place (inl l) rest = or_left _ _ (rest l)
    by_place (inr e) rest = or_right _ _ (ap (λ n. p (start + n)) (sym e) ∙ h)

-- a span inside another
pub list_any-span-within : (p : ℕ → Bool) (start count skipped whole : ℕ) → skipped + count ≤ whole →
    list_any p (span (start + skipped) count) ≡ true → list_any p (span start whole) ≡ true
list_any-span-within p start zero skipped whole fits h = let none = list_any-span-none p (start + skipped) in cc
list_any-span-within p start (suc count) skipped whole fits h =
    let P : ℕ → Type 0 = λ n. list_any p (span (start + skipped) n) ≡ true in
    let here : list_any p (span (start + skipped) (count + 1)) ≡ true = subst P (sym (add-one count)) h in
    by_case (or_cases _ _ (sym (list_any-span-suc p (start + skipped) count) ∙ here)) (λ e. list_any-span-within p start count skipped whole (omega arith) e)
  where
    by_case : (list_any p (span (start + skipped) count) ≡ true) ⊎ (p ((start + skipped) + count) ≡ true) →
        (list_any p (span (start + skipped) count) ≡ true → list_any p (span start whole) ≡ true) → list_any p (span start whole) ≡ true
    by_case (inl e) rest = rest e
    by_case (inr e) rest =
        let place : (start + skipped) + count ≡ start + (skipped + count) = omega arith in
        list_any-span-here p start whole (skipped + count) (omega arith) (ap p (sym place) ∙ e)

-- a set is part of the set that encloses it
pub enclosed : (block : List ℤ) (plane : ℕ) (s : Set) → IsKnown s → set_significant block plane s ≡ true → enclosing_significant block plane s ≡ true
unfolding set_significant enclosing_significant
enclosed block plane Descendants known h = refl
enclosed block plane (Family i) known h =
    let p = significant block plane in
    let at_first : 4 + 4 * i ≡ 4 + 4 * i = refl in
    let at_second : 16 + 16 * i ≡ 4 + (12 + 16 * i) = omega arith in
    elim (or_cases _ _ (sym (list_any-append p (span (4 + 4 * i) 4) (span (16 + 16 * i) 16)) ∙ h)) [
      | inl e ↦ list_any-span-within p 4 4 (4 * i) 60 (omega arith) e
      | inr e ↦ list_any-span-within p 4 16 (12 + 16 * i) 60 (omega arith) (ap (λ n. list_any p (span n 16)) (sym at_second) ∙ e)
    ]
enclosed block plane (Grandchildren i) known h =
    list_any-append (significant block plane) (span (4 + 4 * i) 4) (span (16 + 16 * i) 16) ∙ or_right _ _ h
enclosed block plane (Quad i j) known h = list_any-span-within (significant block plane) (16 + 16 * i) 4 (4 * j) 16 (omega (arith, known.1)) h

both_reached : (n n' m : ℕ) → n ≤ m → n' ≤ m → nat_le n m ≡ nat_le n' m
both_reached n n' m h h' = grind arith

both_missed : (n n' : ℕ) → 0 < n → 0 < n' → nat_le n 0 ≡ nat_le n' 0
both_missed n n' h h' = grind arith

-- a number has no bit below its shift
below_shift : (m plane shift part : ℕ) → m ≡ 2 ^ shift * part → plane < shift → nat_le (2 ^ plane) m ≡ nat_le (2 ^ (plane + 1)) m
below_shift m plane shift zero whole low =
    let none : m ≡ 0 = omega arith in
    let P : ℕ → Type 0 = λ n. nat_le (2 ^ plane) n ≡ nat_le (2 ^ (plane + 1)) n in
    subst P (sym none) (both_missed (2 ^ plane) (2 ^ (plane + 1)) (pow_pos plane) (pow_pos (plane + 1)))
below_shift m plane shift (suc k) whole low =
    let next : 2 ^ (plane + 1) ≤ 2 ^ shift = pow_mono (omega arith) in
    let here : 2 ^ plane ≤ 2 ^ shift = pow_mono (omega arith) in
    let reached : 2 ^ shift ≤ m = at_least (2 ^ shift) k m whole in
    both_reached (2 ^ plane) (2 ^ (plane + 1)) m (omega arith) (omega arith)
  where
    at_least : (n k m : ℕ) → m ≡ n * suc k → n ≤ m
    at_least n k m e = omega (arith, mul-suc n k)

pub not_coded : (block : List ℤ) (weights : List ℕ) (plane p : ℕ) → IsMultiple block weights → coded weights plane p ≡ false →
    significant block plane p ≡ significant block (plane + 1) p
unfolding significant coded
not_coded block weights plane p whole low = grind (arith, nat_tests, below_shift)

not_live : (block : List ℤ) (weights : List ℕ) (plane : ℕ) (xs : List ℕ) → IsMultiple block weights → list_any (coded weights plane) xs ≡ false →
    list_any (significant block plane) xs ≡ list_any (significant block (plane + 1)) xs
not_live block weights plane [] whole h = refl
not_live block weights plane (x ∷ xs) whole h =
    ap (λ b. b || list_any (significant block plane) xs) (not_coded block weights plane x whole (or_parts _ _ h).0) ∙
    ap (λ b. significant block (plane + 1) x || b) (not_live block weights plane xs whole (or_parts _ _ h).1)

pub still_significant : (block : List ℤ) (plane p : ℕ) → significant block (plane + 1) p ≡ true → significant block plane p ≡ true
unfolding significant
still_significant block plane p h = grind (arith, nat_tests, pow_mono)

any_still : (block : List ℤ) (plane : ℕ) (xs : List ℕ) → list_any (significant block (plane + 1)) xs ≡ true → list_any (significant block plane) xs ≡ true
any_still block plane [] h = h
any_still block plane (x ∷ xs) h =
    elim (or_cases (significant block (plane + 1) x) _ h) [
      | inl e ↦ or_left _ _ (still_significant block plane x e)
      | inr e ↦ or_right _ _ (any_still block plane xs e)
    ]

settled : (above here live enclosing : Bool) → (above ≡ true → here ≡ true) → (live ≡ false → here ≡ above) → (here ≡ true → enclosing ≡ true) →
    (not above && live && enclosing) ≡ false → here ≡ above
settled above here live enclosing kept dead inside h = grind (arith, nat_tests)

-- what is sent determines the rest: a set whose flag is not due is significant exactly if it was
pub undue : (block : List ℤ) (weights : List ℕ) (plane : ℕ) (s : Set) → IsKnown s → IsMultiple block weights → flag_due block weights plane s ≡ false →
    set_significant block plane s ≡ set_significant block (plane + 1) s
unfolding flag_due set_significant live
undue block weights plane s known whole h = grind (arith, nat_tests, settled, any_still, not_live, enclosed)
