-- What the sets of a block send, one after another.
use Rattle.std.proofs.Common.{◌≡◌, ℕ, zero, suc, ◌+◌, ◌*◌, ◌-◌, ◌≤◌, ℤ, Bool, true, false, cond, ◌||◌, List, [], ◌∷◌, ◌++◌, map, filter, refl, ap, sym, ◌∙◌}
use Rattle.std.proofs.Common.{arith, append-nil, append_assoc}
use Rattle.std.specs.List.{flat_map, list_any}
use Rattle.std.proofs.lemmas.List.{map-append}
use Rattle.std.proofs.lemmas.List.Elements.{filter-append}
use Rattle.std.proofs.lemmas.Bool.Decides.{nat_tests}
use Rattle.item_defs.specs.Bits.{bit}
use Rattle.plane_defs.specs.declared.sets.Set.TheVariants.{Family, Grandchildren, Quad}
use Rattle.plane_defs.specs.declared.entries.Entry.{Entry}
use Rattle.plane_defs.specs.declared.entries.Entry.TheVariants.{Bit}
use Rattle.plane_defs.specs.Spans.{span}
use Rattle.plane_defs.specs.Sets.{magnitude, set_significant, refined, children_of, quad_of}
use Rattle.plane_defs.specs.Entries.{typed, children_types, quads, quads_types, all_quads}
use Rattle.plane_coder.specs.Refining.{refining}
use Rattle.plane_defs.proofs.Equations.{span-none, span-more}

span_both : (s m n : ℕ) → span s m ++ span (s + m) n ≡ span s (m + n)
unfolding span
span_both s m zero = let e : m + 0 ≡ m = omega arith in append-nil (span s m) ∙ ap (span s) (sym e)
span_both s m (suc n) =
    let e : m + suc n ≡ suc (m + n) = omega arith in
    let there : (s + m) + n ≡ s + (m + n) = omega arith in
    sym (append_assoc (span s m) (span (s + m) n) ((s + m + n) ∷ [])) ∙ ap (λ l. l ++ (s + m + n) ∷ []) (span_both s m n)
    ∙ ap (λ k. span s (m + n) ++ k ∷ []) there ∙ ap (span s) (sym e)

none_passes : (p : ℕ → Bool) (xs : List ℕ) → list_any p xs ≡ false → filter p xs ≡ []
none_passes p [] none = refl
none_passes p (x ∷ xs) none = one (p x) none (λ rest. none_passes p xs rest)
  where
    one : (b : Bool) → (b || list_any p xs) ≡ false → (list_any p xs ≡ false → filter p xs ≡ []) → cond b (x ∷ filter p xs) (filter p xs) ≡ []
    one true h rest = cc
    one false h rest = rest h

-- what the elements that pass a test send is what each element sends if it passes
filtered : (f : ℕ → List Entry) (p : ℕ → Bool) (xs : List ℕ) → flat_map f (filter p xs) ≡ flat_map (λ i. cond (p i) (f i) []) xs
filtered f p [] = refl
filtered f p (x ∷ xs) = one (p x) (filtered f p xs)
  where
    one : (b : Bool) → flat_map f (filter p xs) ≡ flat_map (λ i. cond (p i) (f i) []) xs → flat_map f (cond b (x ∷ filter p xs) (filter p xs))
        ≡ cond b (f x) [] ++ flat_map (λ i. cond (p i) (f i) []) xs
    one true rest = ap (λ l. f x ++ l) rest
    one false rest = rest

module _ (block : List ℤ) (weights : List ℕ) (plane : ℕ) where
  -- what family i sends of its children, if it is significant
  abbrev pub of_children : ℕ → List Entry
  of_children i = cond (set_significant block plane (Family i)) (typed block weights plane (span (children_of i) 4)) []

  pub children_are : flat_map of_children (span 0 3) ≡ children_types block weights plane
  children_are = sym (filtered (λ i. typed block weights plane (span (children_of i) 4)) (λ i. set_significant block plane (Family i)) (span 0 3))

  pub of_children_is : (b : Bool) (i : ℕ) → b ≡ set_significant block plane (Family (0 + i)) → cond b (typed block weights plane (span (4 + 4 * i) 4)) []
      ≡ of_children (0 + i)
  of_children_is b i same = grind (arith, nat_tests)

  -- what a set of four grandchildren sends
  abbrev pub of_quad : ℕ → ℕ → List Entry
  of_quad i j = cond (set_significant block plane (Quad i j)) (typed block weights plane (span (quad_of i j) 4)) []

  pub quads_are : (i : ℕ) → flat_map (of_quad i) (span 0 4) ≡ quads_types block weights plane i
  quads_are i = sym (filtered (λ j. typed block weights plane (span (quad_of i j) 4)) (λ j. set_significant block plane (Quad i j)) (span 0 4))

  pub of_quad_is : (b : Bool) (i j : ℕ) → b ≡ set_significant block plane (Quad i (0 + j)) →
      cond b (typed block weights plane (span (16 + 16 * i + 4 * j) 4)) [] ≡ of_quad i (0 + j)
  of_quad_is b i j same = grind (arith, nat_tests)

  -- what family i sends of its grandchildren
  abbrev pub of_family : ℕ → List Entry
  of_family i = cond (set_significant block plane (Grandchildren i)) (quads block weights plane i) []

  pub families_are : flat_map of_family (span 0 3) ≡ all_quads block weights plane
  families_are = sym (filtered (quads block weights plane) (λ i. set_significant block plane (Grandchildren i)) (span 0 3))

  pub of_family_is : (b : Bool) (i : ℕ) → b ≡ set_significant block plane (Grandchildren (0 + i)) → cond b (quads block weights plane i) [] ≡ of_family (0 + i)
  of_family_is b i same = grind (arith, nat_tests)

  -- ---- refinement

  pub refining_both : (s m n : ℕ) → refining block weights plane s m ++ refining block weights plane (s + m) n ≡ refining block weights plane s (m + n)
  refining_both s m n =
      let f = λ (p : ℕ). Bit (bit (magnitude block p) plane) in
      let d = refined block weights plane in
      sym (map-append f (filter d (span s m)) (filter d (span (s + m) n)))
      ∙ ap (map f) (sym (filter-append d (span s m) (span (s + m) n)) ∙ ap (filter d) (span_both s m n))

  pub refining_none : (s : ℕ) → refining block weights plane s 0 ≡ []
  refining_none s = grind (arith, nat_tests, span-none, span-more)

  -- this number of fours, and one more
  pub refining_more : (from k : ℕ) → from ≤ k → refining block weights plane (4 * from) (4 * (k - from)) ++ refining block weights plane (4 * k) 4
      ≡ refining block weights plane (4 * from) (4 * ((k + 1) - from))
  refining_more from k le =
      let place : 4 * k ≡ 4 * from + 4 * (k - from) = omega arith in
      let sum : 4 * (k - from) + 4 ≡ 4 * ((k + 1) - from) = omega arith in
      ap (λ s. refining block weights plane (4 * from) (4 * (k - from)) ++ refining block weights plane s 4) place ∙
      refining_both (4 * from) (4 * (k - from)) 4 ∙ ap (refining block weights plane (4 * from)) sum

  -- if no position is refined
  pub refining_nothing : (s n : ℕ) → false ≡ list_any (refined block weights plane) (span s n) → [] ≡ refining block weights plane s n
  refining_nothing s n none = sym (ap (map (λ p. Bit (bit (magnitude block p) plane))) (none_passes (refined block weights plane) (span s n) (sym none)))

  pub refining_parts : (s m n o : ℕ) → (refining block weights plane s m ++ refining block weights plane (s + m) n) ++ refining block weights plane
      (s + (m + n)) o ≡ refining block weights plane s ((m + n) + o)
  refining_parts s m n o = ap (λ l. l ++ refining block weights plane (s + (m + n)) o) (refining_both s m n) ∙ refining_both s (m + n) o
