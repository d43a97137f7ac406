-- No word that a block sends is refused in its place.
use Rattle.std.proofs.Common.{◌≡◌, ◌⊎◌, ℕ, zero, suc, ◌+◌, ◌-◌, ◌/◌, ◌<◌, ◌≤◌, inl, inr, Bool, true, false, not, ◌&&◌, cond, List, [], ◌∷◌, ◌++◌, length}
use Rattle.std.proofs.Common.{refl, ap, sym, ◌∙◌, subst, arith, ℤ, map, filter, nat_lt, ◌||◌}
use Rattle.std.specs.List.{flat_map, list_any, AllByRecursion}
use Rattle.std.proofs.lemmas.Bool.{cases_lt, and_parts, false_from_ne_true}
use Rattle.std.proofs.lemmas.Bool.Decides.{nat_tests}
use Rattle.std.proofs.lemmas.List.{length-map}
use Rattle.std.proofs.lemmas.List.Folds.{list_any-append}
use Rattle.item_defs.specs.Bits.{bits_of, copies, value_of}
use Rattle.item_defs.proofs.NumberBits.{bits_of-value_of, bits_of_zero}
use Rattle.plane_defs.specs.declared.sets.Set.{Set}
use Rattle.plane_defs.specs.declared.sets.Set.TheVariants.{Descendants, Family, Grandchildren, Quad}
use Rattle.plane_defs.specs.declared.stages.Stage.{Stage}
use Rattle.plane_defs.specs.declared.stages.Stage.TheVariants as stages
use Rattle.plane_defs.specs.declared.entries.Entry.TheVariants.{Bit}
use Rattle.plane_defs.specs.Spans.{span}
use Rattle.plane_defs.specs.Sets.{significant, coded, set_significant, live, enclosing_significant, type_due, flag_due, newly_significant, refined, IsKnown}
use Rattle.plane_defs.specs.Sets.{children_of, grandchildren_of, quad_of}
use Rattle.plane_defs.specs.Entries.{types, flags, significant_families}
use Rattle.plane_defs.specs.Steps.{Check, free, refuses, lacks_one, some_one_where, Step, step, is_new, is_forced, typed_steps, dc_steps}
use Rattle.plane_defs.specs.Steps.{parents_steps, children_check, children_steps, three_grandchildren, grandchildren_check, quads_steps}
use Rattle.plane_defs.specs.Steps.{grandchildren_steps, refinement_steps, block_steps}
use Rattle.plane_defs.specs.Laws.{IsMultiple, three_families}
use Rattle.plane_defs.specs.StepLaws.{IsAllowed}
use Rattle.plane_defs.proofs.Determined.{undue, enclosed}
use Rattle.plane_defs.proofs.Settled.{type_undue}
use Rattle.plane_defs.proofs.Alike.{all_filter}
use Rattle.plane_defs.proofs.Above.{all_append, all_span, all_zip}
use Rattle.plane_defs.proofs.AlikeSteps.{of_filter, none_any, left_all, at_span, in_family, in_quad, true_false, all_both}
use Rattle.item_defs.proofs.BitLists.{copies_none, copies-more}

-- ---- words of zeros

all_zeros : (n : ℕ) → AllByRecursion (λ b. b ≡ false) (copies n false)
all_zeros zero = simp (copies_none, copies-more) (tt)
all_zeros (suc n) = simp (copies_none, copies-more) ((refl, all_zeros n))

zero_bits : (bits : List Bool) → value_of bits ≡ 0 → AllByRecursion (λ b. b ≡ false) bits
zero_bits bits none =
    subst (λ l. AllByRecursion (λ b. b ≡ false) l) (sym (bits_of_zero (length bits)) ∙ ap (bits_of (length bits)) (sym none) ∙ bits_of-value_of bits)
    (all_zeros (length bits))

inside_map : {X : Type 0} (f : X → Bool) (xs : List X) → AllByRecursion (λ b. b ≡ false) (map f xs) → AllByRecursion (λ x. f x ≡ false) xs
inside_map f [] all = tt
inside_map f (x ∷ xs) all = (all.0, inside_map f xs all.1)

-- if the word is 0, none of those that are due has the property
zero_word : {X : Type 0} (f d : X → Bool) (xs : List X) → value_of (map f (filter d xs)) ≡ 0 → AllByRecursion (λ x. d x ≡ true → f x ≡ false) xs
zero_word f d xs none = of_filter (λ x. f x ≡ false) d xs (inside_map f (filter d xs) (zero_bits (map f (filter d xs)) none))

by_test : (b c : Bool) → (b ≡ true → c ≡ false) → (b ≡ false → c ≡ false) → c ≡ false
by_test b c first second = grind (arith, nat_tests)

any_none : (p : ℕ → Bool) (xs : List ℕ) → AllByRecursion (λ x. p x ≡ false) xs → list_any p xs ≡ false
any_none p [] all = refl
any_none p (x ∷ xs) all = ap (λ b. b || list_any p xs) all.0 ∙ any_none p xs all.1

pub not_false : (b : Bool) → not b ≡ true → b ≡ false
not_false b h = grind (arith, nat_tests)

-- a word of zeros would be false
some_one_allowed : (b : Bool) (w : ℕ) → (b ≡ true → w ≡ 0 → ⊥) → refuses (some_one_where b) w ≡ false
some_one_allowed b w h = grind (arith, nat_tests, false_from_ne_true)

-- no wanted bit is missing
lacks_none : {X : Type 0} (want f : X → Bool) (xs : List X) → AllByRecursion (λ x. want x ≡ true → f x ≡ true) xs → lacks_one (map want xs) (map f xs) ≡ false
lacks_none want f [] all = refl
lacks_none want f (x ∷ xs) all = ap (λ b. b || lacks_one (map want xs) (map f xs)) (met (want x) (f x) all.0) ∙ lacks_none want f xs all.1
  where
    met : (w b : Bool) → (w ≡ true → b ≡ true) → (w && not b) ≡ false
    met w b h1 = grind (arith, nat_tests)

module _ (block : List ℤ) (weights : List ℕ) (plane : ℕ) (whole : IsMultiple block weights) where
  -- ---- sets and numbers that no word makes significant

  silent_sets : (sets : List Set) → AllByRecursion IsKnown sets → AllByRecursion (λ s. set_significant block (plane + 1) s ≡ false) sets →
      value_of (flags block weights plane sets) ≡ 0 →
      AllByRecursion (λ s. set_significant block plane s ≡ false) sets
  silent_sets sets known above none = each sets known above (zero_word (set_significant block plane) (flag_due block weights plane) sets none)
    where
      each : (sets : List Set) → AllByRecursion IsKnown sets → AllByRecursion (λ s. set_significant block (plane + 1) s ≡ false) sets →
          AllByRecursion (λ s. flag_due block weights plane s ≡ true → set_significant block plane s ≡ false) sets →
          AllByRecursion (λ s. set_significant block plane s ≡ false) sets
      each [] known above said = tt
      each (s ∷ sets) known above said = (
        by_test (flag_due block weights plane s) (set_significant block plane s) said.0 (λ no. undue block weights plane s known.0 whole no ∙ above.0),
        each sets known.1 above.1 said.1,
      )

  silent_numbers : (ps : List ℕ) → list_any (significant block (plane + 1)) ps ≡ false → value_of (types block weights plane ps) ≡ 0 →
      list_any (significant block plane) ps ≡ false
  silent_numbers ps above none =
      any_none (significant block plane) ps
      (all_zip {P = λ p. (significant block (plane + 1) p ≡ false) × (type_due block weights plane p ≡ true → significant block plane p ≡ false)} ps
      (λ p h. by_test (type_due block weights plane p) (significant block plane p) h.1 (λ no. type_undue block weights plane p whole no ∙ h.0))
      (all_both (λ p. significant block (plane + 1) p ≡ false) (λ p. type_due block weights plane p ≡ true → significant block plane p ≡ false) ps
      (none_any (significant block (plane + 1)) ps above) (zero_word (significant block plane) (type_due block weights plane) ps none)))

  here_of_new : (s : Set) → is_new block plane s ≡ true → set_significant block plane s ≡ true
  unfolding is_new
  here_of_new s h = (and_parts (set_significant block plane s) (not (set_significant block (plane + 1) s)) h).0

  above_of_new : (s : Set) → is_new block plane s ≡ true → set_significant block (plane + 1) s ≡ false
  unfolding is_new
  above_of_new s h = not_false (set_significant block (plane + 1) s) (and_parts (set_significant block plane s) (not (set_significant block (plane + 1) s)) h).1

  -- ---- 1: a new set of all descendants has a family

  family_above : (i : ℕ) → i < 3 → set_significant block (plane + 1) Descendants ≡ false → set_significant block (plane + 1) (Family i) ≡ false
  unfolding enclosing_significant
  family_above i known h = false_from_ne_true (set_significant block (plane + 1) (Family i))
      (λ e. let inside : set_significant block (plane + 1) Descendants ≡ true = enclosed block (plane + 1) (Family i) known e in true_false (sym inside ∙ h))

  no_member : (i p : ℕ) → set_significant block plane (Family i) ≡ false → ((children_of i ≤ p) × (p < children_of i + 4))
      ⊎ ((grandchildren_of i ≤ p) × (p < grandchildren_of i + 16)) → significant block plane p ≡ false
  unfolding set_significant
  no_member i p h where_it =
      let parts = left_all (λ p. significant block plane p ≡ false) (span (children_of i) 4) (span (grandchildren_of i) 16)
      (none_any (significant block plane) (span (children_of i) 4 ++ span (grandchildren_of i) 16) h) in
      elim where_it [
        | inl in_children ↦ at_span (λ p. significant block plane p ≡ false) (children_of i) 4 p parts.0 in_children.0 in_children.1
        | inr in_grandchildren ↦ at_span (λ p. significant block plane p ≡ false) (grandchildren_of i) 16 p parts.1 in_grandchildren.0 in_grandchildren.1
      ]

  no_descendant : ((i : ℕ) → i < 3 → set_significant block plane (Family i) ≡ false) → set_significant block plane Descendants ≡ false
  unfolding set_significant
  no_descendant families =
      any_none (significant block plane) (span 4 60) (all_span (λ p. significant block plane p ≡ false) 4 60 (λ p low high.
      elim (cases_lt p 16) [
        | inl child ↦ let i = (p - 4) / 4 in no_member i p (families i (omega arith)) (inl (omega arith, omega arith))
        | inr grandchild ↦ let i = (p - 16) / 16 in no_member i p (families i (omega arith)) (inr (omega arith, omega arith))
      ]))

  descendants_allowed : refuses (some_one_where (is_new block plane Descendants)) (value_of (flags block weights plane three_families)) ≡ false
  descendants_allowed =
      some_one_allowed (is_new block plane Descendants) (value_of (flags block weights plane three_families)) (λ new none.
      let above = above_of_new Descendants new in
      let s = silent_sets three_families (omega arith, (omega arith, (omega arith, tt)))
      (family_above 0 (omega arith) above, (family_above 1 (omega arith) above, (family_above 2 (omega arith) above, tt))) none in
      true_false (sym (here_of_new Descendants new) ∙ no_descendant (of_three s.0 s.1.0 s.1.1.0)))
    where
      of_three : set_significant block plane (Family 0) ≡ false → set_significant block plane (Family 1) ≡ false → set_significant block plane (Family 2)
          ≡ false →
          (i : ℕ) → i < 3 → set_significant block plane (Family i) ≡ false
      of_three a b c zero lt = a
      of_three a b c (suc zero) lt = b
      of_three a b c (suc (suc zero)) lt = c
      of_three a b c (suc (suc (suc n))) lt = absurd (omega arith)

  -- ---- 2 and 3: a new family has a child or a grandchild

  family_of : (i : ℕ) → list_any (significant block plane) (span (children_of i) 4) ≡ false → set_significant block plane (Grandchildren i) ≡ false →
      set_significant block plane (Family i) ≡ false
  unfolding set_significant
  family_of i children grandchildren = grind (arith, nat_tests, list_any-append)

  no_grandchild_above : (i : ℕ) → i < 3 → set_significant block (plane + 1) (Family i) ≡ false → set_significant block (plane + 1) (Grandchildren i) ≡ false
  unfolding enclosing_significant
  no_grandchild_above i known h =
      false_from_ne_true (set_significant block (plane + 1) (Grandchildren i)) (λ e. let inside : set_significant block (plane + 1) (Family i) ≡ true =
      enclosed block (plane + 1) (Grandchildren i) known e in true_false (sym inside ∙ h))

  dead_undue : (s : Set) → live weights plane s ≡ false → flag_due block weights plane s ≡ false
  unfolding flag_due
  dead_undue s h = grind (arith, nat_tests)

  children_allowed : (i : ℕ) → i < 3 → refuses (children_check block weights plane i) (value_of (types block weights plane (span (children_of i) 4))) ≡ false
  children_allowed i known =
      some_one_allowed (is_new block plane (Family i) && not (live weights plane (Grandchildren i)))
      (value_of (types block weights plane (span (children_of i) 4))) (λ h none.
      let new : is_new block plane (Family i) ≡ true = (and_parts _ _ h).0 in
      let dead : live weights plane (Grandchildren i) ≡ false = not_false _ (and_parts (is_new block plane (Family i)) _ h).1 in
      let above = above_of_new (Family i) new in
      let children = silent_numbers (span (children_of i) 4) (in_family block (plane + 1) i above) none in
      let grandchildren = undue block weights plane (Grandchildren i) known whole (dead_undue (Grandchildren i) dead) ∙ no_grandchild_above i known above in
      true_false (sym (here_of_new (Family i) new) ∙ family_of i children grandchildren))

  hope_met : (i : ℕ) → is_forced block plane (Grandchildren i) ≡ true → set_significant block plane (Grandchildren i) ≡ true
  unfolding is_forced
  hope_met i h =
      let new : is_new block plane (Family i) ≡ true = (and_parts _ _ h).0 in
      let children : list_any (significant block plane) (span (children_of i) 4) ≡ false = not_false _ (and_parts (is_new block plane (Family i)) _ h).1 in
      by_grandchildren (set_significant block plane (Grandchildren i)) refl new children
    where
      by_grandchildren : (b : Bool) → set_significant block plane (Grandchildren i) ≡ b → is_new block plane (Family i) ≡ true →
          list_any (significant block plane) (span (children_of i) 4) ≡ false →
          set_significant block plane (Grandchildren i) ≡ true
      by_grandchildren true e new children = e
      by_grandchildren false e new children = absurd (true_false (sym (here_of_new (Family i) new) ∙ family_of i children e))

  grandchildren_allowed : refuses (grandchildren_check block weights plane three_grandchildren) (value_of (flags block weights plane three_grandchildren))
      ≡ false
  grandchildren_allowed = grind (arith, nat_tests, length-map, bits_of-value_of, lacks_none, all_filter, hope_met)

  -- ---- 4 and 5: a new set of grandchildren has one

  quad_above : (i j : ℕ) → i < 3 → j < 4 → set_significant block (plane + 1) (Grandchildren i) ≡ false → set_significant block (plane + 1) (Quad i j) ≡ false
  unfolding enclosing_significant
  quad_above i j known also h =
      false_from_ne_true (set_significant block (plane + 1) (Quad i j)) (λ e. let inside : set_significant block (plane + 1) (Grandchildren i) ≡ true =
      enclosed block (plane + 1) (Quad i j) (known, also) e in true_false (sym inside ∙ h))

  no_grandchild : (i : ℕ) → ((j : ℕ) → j < 4 → set_significant block plane (Quad i j) ≡ false) → set_significant block plane (Grandchildren i) ≡ false
  unfolding set_significant
  no_grandchild i quads =
      any_none (significant block plane) (span (grandchildren_of i) 16) (all_span (λ p. significant block plane p ≡ false) (grandchildren_of i) 16
      (λ p low high.
      let j = (p - grandchildren_of i) / 4 in
      at_span (λ p. significant block plane p ≡ false) (quad_of i j) 4 p (none_any (significant block plane) (span (quad_of i j) 4) (quads j (omega arith)))
      (omega arith) (omega arith)))

  abbrev quads_in : ℕ → List Set
  quads_in i = Quad i 0 ∷ Quad i 1 ∷ Quad i 2 ∷ Quad i 3 ∷ []

  quads_allowed : (i : ℕ) → i < 3 → refuses (some_one_where (is_new block plane (Grandchildren i))) (value_of (flags block weights plane (quads_in i))) ≡ false
  quads_allowed i known =
      some_one_allowed (is_new block plane (Grandchildren i)) (value_of (flags block weights plane (quads_in i))) (λ new none.
      let above = above_of_new (Grandchildren i) new in
      let s = silent_sets (quads_in i) ((known, omega arith), ((known, omega arith), ((known, omega arith), ((known, omega arith), tt)))) (
        quad_above i 0 known (omega arith) above,
        (
          quad_above i 1 known (omega arith) above,
          (quad_above i 2 known (omega arith) above, (quad_above i 3 known (omega arith) above, tt)),
        ),
      ) none in
      true_false (sym (here_of_new (Grandchildren i) new) ∙ no_grandchild i (of_four s.0 s.1.0 s.1.1.0 s.1.1.1.0)))
    where
      of_four : set_significant block plane (Quad i 0) ≡ false → set_significant block plane (Quad i 1) ≡ false → set_significant block plane (Quad i 2)
          ≡ false → set_significant block plane (Quad i 3) ≡ false →
          (j : ℕ) → j < 4 → set_significant block plane (Quad i j) ≡ false
      of_four a b c d zero lt = a
      of_four a b c d (suc zero) lt = b
      of_four a b c d (suc (suc zero)) lt = c
      of_four a b c d (suc (suc (suc zero))) lt = d
      of_four a b c d (suc (suc (suc (suc n)))) lt = absurd (omega arith)

  quad_of_numbers : (i j : ℕ) → list_any (significant block plane) (span (quad_of i j) 4) ≡ false → set_significant block plane (Quad i j) ≡ false
  unfolding set_significant
  quad_of_numbers i j h = h

  quad_allowed : (i j : ℕ) → refuses (some_one_where (is_new block plane (Quad i j))) (value_of (types block weights plane (span (quad_of i j) 4))) ≡ false
  quad_allowed i j =
      some_one_allowed (is_new block plane (Quad i j)) (value_of (types block weights plane (span (quad_of i j) 4))) (λ new none.
      true_false (sym (here_of_new (Quad i j) new) ∙ quad_of_numbers i j
      (silent_numbers (span (quad_of i j) 4) (in_quad block (plane + 1) i j (above_of_new (Quad i j) new)) none)))

  -- ---- all steps

  all_free : {X : Type 0} (f : X → Step) → ((x : X) → IsAllowed (f x)) → (xs : List X) → AllByRecursion IsAllowed (map f xs)
  all_free f each [] = tt
  all_free f each (x ∷ xs) = (each x, all_free f each xs)

  all_flat : {X : Type 0} (f : X → List Step) (xs : List X) → AllByRecursion (λ x. AllByRecursion IsAllowed (f x)) xs → AllByRecursion IsAllowed (flat_map f xs)
  all_flat f [] all = tt
  all_flat f (x ∷ xs) all = all_append IsAllowed (f x) (flat_map f xs) all.0 (all_flat f xs all.1)

  typed_allowed : (check : Check) (ps : List ℕ) → refuses check (value_of (types block weights plane ps)) ≡ false →
      AllByRecursion IsAllowed (typed_steps block weights plane check ps)
  typed_allowed check ps h = (h, all_free _ (λ p. refl) (filter (newly_significant block weights plane) ps))

  below_three : (P : ℕ → Type 0) → ((i : ℕ) → i < 3 → P i) → (p : ℕ → Bool) → AllByRecursion P (filter p (span 0 3))
  below_three P each p = all_filter P p (span 0 3) (all_span P 0 3 (λ i low high. each i (omega arith)))

  below_four : (P : ℕ → Type 0) → ((i : ℕ) → i < 4 → P i) → (p : ℕ → Bool) → AllByRecursion P (filter p (span 0 4))
  below_four P each p = all_filter P p (span 0 4) (all_span P 0 4 (λ i low high. each i (omega arith)))

  pub parents_are_allowed : AllByRecursion IsAllowed (parents_steps block weights plane)
  parents_are_allowed = typed_allowed free (span 1 3) refl

  pub children_are_allowed : AllByRecursion IsAllowed (children_steps block weights plane)
  children_are_allowed =
      all_append IsAllowed (map (λ b. step free (Bit b)) (flags block weights plane (Descendants ∷ []))) _
      (all_free (λ b. step free (Bit b)) (λ b. refl) (flags block weights plane (Descendants ∷ []))) (
        descendants_allowed,
        all_flat (λ i. typed_steps block weights plane (children_check block weights plane i) (span (children_of i) 4))
            (significant_families block plane Family)
            (below_three (λ i. AllByRecursion IsAllowed (typed_steps block weights plane (children_check block weights plane i) (span (children_of i) 4)))
            (λ i known. typed_allowed (children_check block weights plane i) (span (children_of i) 4) (children_allowed i known))
            (λ i. set_significant block plane (Family i))),
      )

  quads_are_allowed : (i : ℕ) → i < 3 → AllByRecursion IsAllowed (quads_steps block weights plane i)
  quads_are_allowed i known = (
    quads_allowed i known,
    all_flat (λ j. typed_steps block weights plane (some_one_where (is_new block plane (Quad i j))) (span (quad_of i j) 4))
        (filter (λ j. set_significant block plane (Quad i j)) (span 0 4))
        (below_four (λ j. AllByRecursion IsAllowed (typed_steps block weights plane (some_one_where (is_new block plane (Quad i j))) (span (quad_of i j) 4)))
        (λ j also. typed_allowed (some_one_where (is_new block plane (Quad i j))) (span (quad_of i j) 4) (quad_allowed i j))
        (λ j. set_significant block plane (Quad i j))),
  )

  pub grandchildren_are_allowed : AllByRecursion IsAllowed (grandchildren_steps block weights plane)
  grandchildren_are_allowed = (
    grandchildren_allowed,
    all_flat (quads_steps block weights plane) (significant_families block plane Grandchildren)
        (below_three (λ i. AllByRecursion IsAllowed (quads_steps block weights plane i)) quads_are_allowed
        (λ i. set_significant block plane (Grandchildren i))),
  )

  pub refinement_is_allowed : AllByRecursion IsAllowed (refinement_steps block weights plane)
  refinement_is_allowed = all_free _ (λ p. refl) (filter (refined block weights plane) (span 1 63))

  pub dcs_are_allowed : (q : ℕ) → AllByRecursion IsAllowed (dc_steps block weights plane q)
  dcs_are_allowed q = if_sent (coded weights plane 0 && nat_lt plane q) _ (refl, tt)
    where
      if_sent : (b : Bool) (steps : List Step) → AllByRecursion IsAllowed steps → AllByRecursion IsAllowed (cond b steps [])
      if_sent true steps all = all
      if_sent false steps all = tt

where_sent : (b : Bool) (steps : List Step) → AllByRecursion IsAllowed steps → AllByRecursion IsAllowed (cond b steps [])
where_sent true steps all = all
where_sent false steps all = tt

pub block_is_allowed : (stage : Stage) (block : List ℤ) (d : ℕ) (weights : List ℕ) (plane q : ℕ) → IsMultiple block weights →
    AllByRecursion IsAllowed (block_steps stage block d weights plane q)
unfolding block_steps
block_is_allowed stages.DcBits block d weights plane q whole = dcs_are_allowed block weights plane whole q
block_is_allowed stages.Parents block d weights plane q whole = where_sent (nat_lt plane d) _ (parents_are_allowed block weights plane whole)
block_is_allowed stages.Children block d weights plane q whole = where_sent (nat_lt plane d) _ (children_are_allowed block weights plane whole)
block_is_allowed stages.Grandchildren block d weights plane q whole = where_sent (nat_lt plane d) _ (grandchildren_are_allowed block weights plane whole)
block_is_allowed stages.Refinement block d weights plane q whole = where_sent (nat_lt plane d) _ (refinement_is_allowed block weights plane whole)
