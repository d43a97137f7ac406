-- The checks of a plane make the flags of families true: a family that was read is significant in the values, and no other is.
use Rattle.std.proofs.Common.{◌≡◌, ◌⊎◌, ℕ, ◌+◌, ◌-◌, ◌*◌, ◌≤◌, ◌<◌, ◌&&◌, ◌||◌, not, nat_lt, nat_le, Bool, true, false, List, refl, ap, sym, ◌∙◌, arith, ℤ}
use Rattle.std.proofs.Common.{inl, inr}
use Rattle.std.specs.List.{list_any}
use Rattle.std.proofs.lemmas.Bool.Decides.{nat_tests}
use Rattle.std.proofs.lemmas.List.Folds.{list_any-append}
use Rattle.item_defs.specs.Bits.{bit}
use Rattle.plane_defs.specs.declared.sets.Set.TheVariants.{Family, Grandchildren}
use Rattle.plane_defs.specs.Spans.{span}
use Rattle.plane_defs.specs.Sets.{magnitude, significant, coded, live, set_significant, type_due, flag_due, newly_significant, refined, children_of}
use Rattle.plane_defs.specs.Codes.{is_book_sound}
use Rattle.plane_defs.specs.StepLaws.{IsAc, SameAc}
use Rattle.plane_defs.specs.Laws.{IsMultiple}
use Rattle.plane_defs.proofs.Equations.{set_significant-is, newly_significant-is, refined-is, enclosing-grandchildren}
use Rattle.plane_defs.proofs.Determined.{enclosed, still_significant, list_any-span-here}
use Rattle.std.proofs.lemmas.Bool.{or_parts}
use Rattle.std.proofs.lemmas.Bool.{or_right}
use Rattle.plane_defs.proofs.StageGoes.{false_of}
use Rattle.plane_defs.proofs.StageGoes.{no_clash}
use Rattle.plane_defs.proofs.StageGoes.{either}
use Rattle.plane_defs.specs.Written.{has, AreChosen}
use Rattle.plane_defs.specs.States.{State}
use Rattle.plane_defs.specs.StageScripts.{Terms, above, is_childless}
use Rattle.plane_defs.proofs.StageGoes.{some_place}
use Rattle.plane_defs.proofs.PlacesSent as places
use Rattle.plane_defs.proofs.PlacesSent.{has_span, in_span}
use Rattle.plane_defs.proofs.QuadsBack as quads
use Rattle.plane_defs.proofs.QuadsBack.{same_truth}
use Rattle.plane_defs.proofs.StageAnswers.{sixteen, Facts, ChildrenMay, GrandMay, untouched}
use Rattle.plane_defs.proofs.TypesAnswers.{group}

module _ (o : List ℕ) (chosen : AreChosen o) (t : Terms) (is_sound : is_book_sound t.book ≡ true) (block v : List ℤ) (same : SameAc block v (t.plane + 1))
    (whole : IsMultiple v t.weights) where
  abbrev W : List ℕ
  W = t.weights

  abbrev b : ℕ
  b = t.plane

  abbrev newly : ℕ → Bool
  newly = newly_significant v W b

  abbrev due : ℕ → Bool
  due = type_due block W b

  new_due : (q : ℕ) → IsAc q → newly q ≡ true → due q ≡ true
  new_due q ac e = places.type_is o chosen t block v same whole q ac ∙ (first (type_due v W b q) (significant v b q) (sym (newly_significant-is v W b q) ∙ e))
    where
      first : (x y : Bool) → (x && y) ≡ true → x ≡ true
      first x y h1 = grind (arith, nat_tests)

  -- from the state before the stage of the children to the end of the plane, by the states between
  module _ (depth : ℕ) (before children grand end : State) (first : Facts t block 2 depth before children) (second : Facts t block 3 depth children grand)
      (third : Facts t block 4 depth grand end) (of_children : ChildrenMay t block before children) (of_grand : GrandMay t block children grand)
      (fresh : (q : ℕ) → IsAc q → 4 ≤ q → before.bits q ≡ false)
      (agrees : (q : ℕ) → IsAc q → end.bits q ≡ (newly q || (refined v W b q && bit (magnitude v q) b))) where
    abbrev sets : ℕ → Bool
    sets i = set_significant v b (Family i)

    kept_families : (i : ℕ) → end.families i ≡ children.families i
    kept_families i = third.families (λ e. absurd (omega (arith, e))) i ∙ second.families (λ e. absurd (omega (arith, e))) i

    -- a bit that was read is that of a significant number
    bit_significant : (q : ℕ) → IsAc q → end.bits q ≡ true → significant v b q ≡ true
    bit_significant q ac e = by (newly q) (refined v W b q) refl refl (sym (agrees q ac) ∙ e)
      where
        first_of : (x y : Bool) → (x && y) ≡ true → x ≡ true
        first_of x y h1 = grind (arith, nat_tests)

        by : (x y : Bool) → newly q ≡ x → refined v W b q ≡ y → (x || (y && bit (magnitude v q) b)) ≡ true → significant v b q ≡ true
        by true y e f h = quads.sig_of_new o chosen t is_sound block v same whole q e
        by false true e f h = still_significant v b q (first_of (significant v (b + 1) q) (coded W b q) (sym (refined-is v W b q) ∙ f))
        by false false e f h = cc

    member : (i q : ℕ) → i < 3 → significant v b q ≡ true → (has (group 4 i) q ≡ true) ⊎ (has (sixteen i) q ≡ true) → sets i ≡ true
    member i q lt e (inl inside) =
        let k = in_span (4 + 4 * i) 4 q inside in
        let place : 4 + 4 * i + (q - (4 + 4 * i)) ≡ q = omega (arith, k.0) in
        set_significant-is v b (Family i) ∙ list_any-append (significant v b) (span (4 + 4 * i) 4) (span (16 + 16 * i) 16) ∙
        ap (λ x. x || list_any (significant v b) (span (16 + 16 * i) 16))
        (list_any-span-here (significant v b) (4 + 4 * i) 4 (q - (4 + 4 * i)) (omega (arith, k.0, k.1)) (ap (significant v b) place ∙ e))
    member i q lt e (inr inside) =
        let k = in_span (16 + 16 * i) 16 q inside in
        let place : 16 + 16 * i + (q - (16 + 16 * i)) ≡ q = omega (arith, k.0) in
        set_significant-is v b (Family i) ∙ list_any-append (significant v b) (span (4 + 4 * i) 4) (span (16 + 16 * i) 16) ∙
        or_right (list_any (significant v b) (span (4 + 4 * i) 4)) _
        (list_any-span-here (significant v b) (16 + 16 * i) 16 (q - (16 + 16 * i)) (omega (arith, k.0, k.1)) (ap (significant v b) place ∙ e))

    place_of_child : (i q : ℕ) → i < 3 → has (group 4 i) q ≡ true → (4 ≤ q) × (q < 16)
    place_of_child i q lt inside = let k = in_span (4 + 4 * i) 4 q inside in (omega (arith, k.0), omega (arith, k.1, lt))

    place_of_grand : (i q : ℕ) → i < 3 → has (sixteen i) q ≡ true → (16 ≤ q) × (q < 64)
    place_of_grand i q lt inside = let k = in_span (16 + 16 * i) 16 q inside in (omega (arith, k.0), omega (arith, k.1, lt))

    above_family : (i : ℕ) → i < 3 → above t block (Family i) ≡ true → sets i ≡ true
    above_family i lt e =
        sym (ap (λ x. x || (flag_due v W b (Family i) && sets i)) (sym e ∙ places.above_is o chosen t block v same whole (Family i) lt) ∙
        places.flag_all o chosen t block v same whole (Family i) lt)

    above_grand : (i : ℕ) → i < 3 → above t block (Family i) ≡ false → above t block (Grandchildren i) ≡ false
    above_grand i lt e = false_of (above t block (Grandchildren i)) (λ h.
        no_clash (above t block (Family i)) (sym (enclosing-grandchildren block (b + 1) i) ∙ enclosed block (b + 1) (Grandchildren i) lt h) e)

    -- a family that was read is significant
    read_true : (i : ℕ) → i < 3 → end.families i ≡ true → sets i ≡ true
    read_true i lt e = by (above t block (Family i)) refl (of_children.some i lt (sym (kept_families i) ∙ e))
      where
        by : (x : Bool) → above t block (Family i) ≡ x →
            (above t block (Family i) ≡ true) ⊎ (((q : ℕ) × (has (group 4 i) q ≡ true) × (children.bits q ≡ true)) ⊎ (live W b
            (Grandchildren i) ≡ true)) → sets i ≡ true
        by true old w = above_family i lt old
        by false old (inl w) = above_family i lt w
        by false old (inr (inl w)) =
            let k = place_of_child i w.0 lt w.1 in
            member i w.0 lt (bit_significant w.0 (omega (arith, k.0), omega (arith, k.1)) (third.changes.more w.0 (second.changes.more w.0 w.2))) (inl w.1)
        by false old (inr (inr is_live)) = of_test (list_any (λ p. significant block (b + 1) p || children.bits p) (span (children_of i) 4)) refl
          where
            of_test : (x : Bool) → list_any (λ p. significant block (b + 1) p || children.bits p) (span (children_of i) 4) ≡ x → sets i ≡ true
            of_test true f =
                let w = some_place (λ p. significant block (b + 1) p || children.bits p) (children_of i) 4 f in
                let q = children_of i + w.0 in
                let inside : has (group 4 i) q ≡ true = has_span (4 + 4 * i) 4 q ∙ tests q (omega arith) (omega (arith, w.1)) in
                let k = place_of_child i q lt inside in
                let ac : IsAc q = (omega (arith, k.0), omega (arith, k.1)) in
                elim (either (significant block (b + 1) q) (children.bits q) w.2) [
                  | inl a ↦ member i q lt (still_significant v b q (sym (same q ac) ∙ a)) (inl inside)
                  | inr a ↦ member i q lt (bit_significant q ac (third.changes.more q (second.changes.more q a))) (inl inside)
                ]
              where
                tests : (q : ℕ) → 4 + 4 * i ≤ q → q < 4 + 4 * i + 4 → (nat_le (4 + 4 * i) q && nat_lt q (4 + 4 * i + 4)) ≡ true
                tests q low high = grind (arith, nat_tests)
            of_test false f =
                let childless : is_childless t block children i ≡ true =
                ap (λ x. (x && not (above t block (Family i))) && not (list_any (λ p. significant block (b + 1) p || children.bits p) (span (children_of i) 4)))
                (sym (kept_families i) ∙ e) ∙ ap (λ x. not x && not (list_any (λ p. significant block (b + 1) p || children.bits p) (span
                (children_of i) 4))) old ∙ ap not f in
                let w = of_grand.forced i lt childless (above_grand i lt old) is_live in
                let k = place_of_grand i w.0 lt w.1 in
                member i w.0 lt (bit_significant w.0 (omega (arith, k.0), k.1) (third.changes.more w.0 w.2)) (inr w.1)

    -- a family that was not read is not
    true_read : (i : ℕ) → i < 3 → sets i ≡ true → end.families i ≡ true
    true_read i lt e = by (above t block (Family i)) refl (end.families i) refl
      where
        no_child : (q : ℕ) → children.families i ≡ false → has (group 4 i) q ≡ true → newly q ≡ true → ⊥
        no_child q none inside new =
            let k = place_of_child i q lt inside in
            let ac : IsAc q = (omega (arith, k.0), omega (arith, k.1)) in
            let is_due = new_due q ac new in
            let stays : end.bits q ≡ children.bits q = third.changes.bits q
            (untouched t block depth 4 q is_due ac.0 (λ low high. absurd (omega (arith, low, k.1)))) ∙
            second.changes.bits q (untouched t block depth 3 q is_due ac.0 (λ low high. absurd (omega (arith, low, k.1)))) in
            no_clash (end.bits q) (agrees q ac ∙ ap (λ x. x || (refined v W b q && bit (magnitude v q) b)) new) (stays ∙
            of_children.none i lt none q inside ∙ fresh q ac k.0)

        no_grand : (q : ℕ) → children.families i ≡ false → above t block (Grandchildren i) ≡ false → has (sixteen i) q ≡ true → newly q ≡ true → ⊥
        no_grand q none old inside new =
            let k = place_of_grand i q lt inside in
            let ac : IsAc q = (omega (arith, k.0), k.1) in
            let is_due = new_due q ac new in
            let stays : end.bits q ≡ grand.bits q = third.changes.bits q
            (untouched t block depth 4 q is_due ac.0 (λ low high. absurd (omega (arith, low, k.1)))) in
            let earlier : children.bits q ≡ before.bits q = first.changes.bits q (untouched t block depth 2 q is_due ac.0 (λ low high. absurd (omega
            (arith, high, k.0)))) in
            no_clash (end.bits q) (agrees q ac ∙ ap (λ x. x || (refined v W b q && bit (magnitude v q) b)) new)
            (stays ∙ of_grand.none i lt none old q inside ∙ earlier ∙ fresh q ac (omega (arith, k.0)))

        by : (x : Bool) → above t block (Family i) ≡ x → (y : Bool) → end.families i ≡ y → y ≡ true
        by x old true f = refl
        by true old false f = absurd (no_clash (end.families i) (kept_families i ∙ of_children.was i lt old) f)
        by false old false f =
            let none : children.families i ≡ false = sym (kept_families i) ∙ f in
            let none_above : set_significant v (b + 1) (Family i) ≡ false = sym (places.above_is o chosen t block v same whole (Family i) lt) ∙ old in
            let split = or_parts _ _ (sym (list_any-append (significant v (b + 1)) (span (4 + 4 * i) 4) (span (16 + 16 * i) 16)) ∙
            sym (set_significant-is v (b + 1) (Family i)) ∙ none_above) in
            elim (either _ _ (sym (list_any-append (significant v b) (span (4 + 4 * i) 4) (span (16 + 16 * i) 16)) ∙
            sym (set_significant-is v b (Family i)) ∙ e)) [
              | inl w ↦
                  let x = quads.new_member o chosen t is_sound block v same whole (4 + 4 * i) 4 w split.0 in
                  absurd (no_child (4 + 4 * i + x.0) none (has_span (4 + 4 * i) 4 (4 + 4 * i + x.0) ∙
                  tests (4 + 4 * i) 4 (4 + 4 * i + x.0) (omega arith) (omega (arith, x.1))) x.2)
              | inr w ↦
                  let x = quads.new_member o chosen t is_sound block v same whole (16 + 16 * i) 16 w split.1 in
                  absurd (no_grand (16 + 16 * i + x.0) none (above_grand i lt old)
                  (has_span (16 + 16 * i) 16 (16 + 16 * i + x.0) ∙ tests (16 + 16 * i) 16 (16 + 16 * i + x.0) (omega arith) (omega (arith, x.1))) x.2)
            ]
          where
            tests : (a c q : ℕ) → a ≤ q → q < a + c → (nat_le a q && nat_lt q (a + c)) ≡ true
            tests a c q low high = grind (arith, nat_tests)

    pub families_true : (i : ℕ) → i < 3 → end.families i ≡ sets i
    families_true i lt = same_truth (end.families i) (sets i) (read_true i lt) (true_read i lt)
