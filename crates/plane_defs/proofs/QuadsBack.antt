-- The end decides the flags of sets of four grandchildren, and what is read of these sets.
use Rattle.std.proofs.Common.{◌≡◌, ℕ, suc, ◌+◌, ◌-◌, ◌*◌, ◌≤◌, ◌<◌, ◌&&◌, ◌||◌, not, nat_lt, nat_le, Bool, true, false, List}
use Rattle.std.proofs.Common.{filter, refl, ap, sym, ◌∙◌, arith, ℤ, pos}
use Rattle.std.specs.List.{list_any}
use Rattle.std.proofs.lemmas.Bool.Decides.{nat_tests}
use lib.ListN.{get_or}
use Rattle.plane_defs.specs.declared.sets.Set.TheVariants.{Quad}
use Rattle.plane_defs.specs.Spans.{span}
use Rattle.plane_defs.specs.Sets.{significant, coded, set_significant, type_due, newly_significant, quad_of}
use Rattle.plane_defs.specs.Codes.{is_book_sound}
use Rattle.plane_defs.specs.Entries.{negative}
use Rattle.plane_defs.specs.Steps.{some_one_where}
use Rattle.plane_defs.specs.StepLaws.{SameAc}
use Rattle.plane_defs.specs.Laws.{IsMultiple}
use Rattle.plane_defs.proofs.Equations.{set_significant-is, newly_significant-is, type_due-is}
use Rattle.plane_defs.proofs.Determined.{not_coded, list_any-span-here}
use Rattle.plane_defs.proofs.AlikeSteps.{none_any, at_span}
use Rattle.item_defs.specs.Scripts.{Script, in_turn}
use Rattle.std.proofs.lemmas.Bool.{or_right}
use Rattle.plane_defs.proofs.StageGoes.{no_clash}
use Rattle.plane_defs.proofs.WordGoes.{both}
use Rattle.plane_defs.specs.Written.{has, AreChosen}
use Rattle.plane_defs.specs.States.{State}
use Rattle.plane_defs.specs.WordScripts.{due_script, group_script}
use Rattle.plane_defs.specs.StageScripts.{Terms, above, is_due, quads_script}
use Rattle.plane_defs.proofs.StageGoes.{some_place, due_parts, grandchildren_due}
use Rattle.plane_defs.proofs.WordGoes.{span_short}
use Rattle.plane_defs.proofs.PlacesSent as places
use Rattle.plane_defs.proofs.PlacesSent.{has_span, in_span, here_due}
use Rattle.plane_defs.proofs.Answers.{never, may_weaker, Decided, decided_more, decided_then}
use Rattle.plane_defs.proofs.TypesAnswers.{group, apart, GroupsMay, groups_may}
use Rattle.plane_defs.proofs.WordAnswers.{DueMay, due_may}
use Rattle.plane_defs.proofs.WordsBack.{Later, differ_span, due_decided}
use Rattle.plane_defs.proofs.TypesBack as types
use Rattle.plane_defs.proofs.TypesBack.{later_on, Empty}

pub same_truth : (x y : Bool) → (x ≡ true → y ≡ true) → (y ≡ true → x ≡ true) → x ≡ y
same_truth x y h1 h2 = grind (arith, nat_tests)

module _ (o : List ℕ) (chosen : AreChosen o) (t : Terms) (is_sound : is_book_sound t.book ≡ true) (block v : List ℤ) (same : SameAc block v (t.plane + 1))
    (whole : IsMultiple v t.weights) where
  abbrev W : List ℕ
  W = t.weights

  abbrev b : ℕ
  b = t.plane

  abbrev newly : ℕ → Bool
  newly = newly_significant v W b

  abbrev neg : ℕ → Bool
  neg q = negative (get_or v q (pos 0))

  abbrev due : ℕ → Bool
  due = type_due block W b

  abbrev pub Right : (a c : ℕ) → State → Type 0
  Right = types.Right o newly neg

  pub sig_of_new : (q : ℕ) → newly q ≡ true → significant v b q ≡ true
  sig_of_new q e = (both (type_due v W b q) (significant v b q) (sym (newly_significant-is v W b q) ∙ e)).1

  -- a set that becomes significant has a number that does
  pub new_member : (start count : ℕ) → list_any (significant v b) (span start count) ≡ true → list_any (significant v (b + 1)) (span start count) ≡ false →
      (k : ℕ) × (k < count) × (newly (start + k) ≡ true)
  new_member start count here none =
      let w = some_place (significant v b) start count here in
      let q = start + w.0 in
      let above : significant v (b + 1) q ≡ false =
      at_span (λ p. significant v (b + 1) p ≡ false) start count q (none_any (significant v (b + 1)) (span start count) none) (omega arith) (omega
      (arith, w.1)) in (
        w.0,
        w.1,
        newly_significant-is v W b q ∙ ap (λ x. x && significant v b q) (type_due-is v W b q ∙ ap (λ x. not x && coded W b q) above ∙
            sent (coded W b q) (λ e. not_coded v W b q whole e ∙ above) w.2) ∙ w.2,
      )
    where
      sent : (x : Bool) {y : Bool} → (x ≡ false → y ≡ false) → y ≡ true → x ≡ true
      sent true h e = refl
      sent false {y} h e = absurd (no_clash y e (h refl))

  -- ---- sixteen grandchildren

  pub quads_decided : (i : ℕ) → i < 3 → (new : Bool) (s : State) → Empty (16 + 16 * i) s →
      Decided (quads_script t block i new s) (Right (16 + 16 * i) (16 + 16 * suc i))
  quads_decided i lt new s empty =
      decided_then (DueMay false set (some_one_where new) (span 0 4) s) Q (Right (16 + 16 * i) (16 + 16 * suc i))
      (due_script t.book set (some_one_where new) (span 0 4) s) next
      (due_may false t.book never set (some_one_where new) (span 0 4) s never never never)
      (due_decided t.book o set (some_one_where new) (span 0 4) (λ j. set_significant v b (Quad i j)) s (differ_span 0 4) (span_short 0 4))
      (λ g d. (
        may_weaker false (GroupsMay false due (quad_of i 0) (sent g) g.1 0 (0 + 4) g.0) (λ e. Right (16 + 16 * i) (16 + 16 * suc i) e → Q g) (next g)
            (λ e z h. (
              later_on o g.0 e z.leaves.grows h.0,
              λ j inside. (let w = here_due set 4 j inside in truth g e d z h j w.0 w.1),
            )) (groups_may false t.book never due (quad_of i 0) (sent g) g.1 0 4 g.0 never (λ j lt x. never x)),
        decided_more (Right (quad_of i 0) (quad_of i 0 + 4 * 4)) (Right (16 + 16 * i) (16 + 16 * suc i)) (next g)
            (λ e h. (h.0, λ q from to. h.1 q (omega (arith, from)) (omega (arith, to))))
            (types.groups_decided t.book o due newly neg (quad_of i 0) 4 (sent g) g.1 (omega (arith, lt)) g.0
            (λ q low high. (let z = empty q (omega (arith, low)) high in ((λ k. (d.rest k).bits q) ∙ z.0, (λ k. (d.rest k).minus q) ∙ z.1)))),
      ))
    where
      set : ℕ → Bool
      set j = is_due t block (Quad i j) true

      sent : State × (ℕ → Bool) → ℕ → Bool
      sent g j = above t block (Quad i j) || g.1 j

      next : State × (ℕ → Bool) → Script State State
      next g = in_turn (group_script t.book due (quad_of i 0) (sent g) g.1) 0 4 g.0

      Q : State × (ℕ → Bool) → Type 0
      Q g = Later o g.0.options × ((j : ℕ) → has (filter set (span 0 4)) j ≡ true → g.1 j ≡ set_significant v b (Quad i j))

      -- a flag that was read is that of the values
      truth : (g : State × (ℕ → Bool)) (e : State) → DueMay false set (some_one_where new) (span 0 4) s g →
          GroupsMay false due (quad_of i 0) (sent g) g.1 0 (0 + 4) g.0 e → Right (16 + 16 * i) (16 + 16 * suc i) e → (j : ℕ) → j < 4 → set j ≡ true →
          g.1 j ≡ set_significant v b (Quad i j)
      truth g e d z h j small is_due_j = same_truth (g.1 j) (set_significant v b (Quad i j)) there back
        where
          there : g.1 j ≡ true → set_significant v b (Quad i j) ≡ true
          there e1 =
              let x = z.some j (omega arith) (omega (arith, small)) (or_right (above t block (Quad i j)) (g.1 j) e1) e1
              (grandchildren_due t is_sound block i j is_due_j) in
              let k = in_span (quad_of i 0 + 4 * j) 4 x.0 x.1 in
              let q : quad_of i j + (x.0 - quad_of i j) ≡ x.0 = omega (arith, k.0) in
              let sig : significant v b (quad_of i j + (x.0 - quad_of i j)) ≡ true = ap (significant v b) q ∙
              sig_of_new x.0 (sym (h.1 x.0 (omega (arith, k.0)) (omega (arith, k.1, small))).0 ∙ x.2) in
              set_significant-is v b (Quad i j) ∙ list_any-span-here (significant v b) (quad_of i j) 4 (x.0 - quad_of i j) (omega (arith, k.0, k.1)) sig

          back : set_significant v b (Quad i j) ≡ true → g.1 j ≡ true
          back e1 =
              let parts = due_parts t is_sound block (Quad i j) true is_due_j in
              let none : set_significant v (b + 1) (Quad i j) ≡ false = sym (places.above_is o chosen t block v same whole (Quad i j) (lt, small)) ∙
              set_significant-is block (b + 1) (Quad i j) ∙ parts.1 in
              let x = new_member (quad_of i j) 4 (sym (set_significant-is v b (Quad i j)) ∙ e1) (sym (set_significant-is v (b + 1) (Quad i j)) ∙ none) in
              by (g.1 j) refl (quad_of i j + x.0) (omega arith) (omega (arith, x.1, small)) (omega (arith, x.1)) x.2
              (places.above_is o chosen t block v same whole (Quad i j) (lt, small) ∙ none)
            where
              by : (y : Bool) → g.1 j ≡ y → (q : ℕ) → quad_of i j ≤ q → q < 16 + 16 * i + 16 → q < quad_of i j + 4 → newly q ≡ true →
                  above t block (Quad i j) ≡ false → y ≡ true
              by true e2 q low high end new_q old = refl
              by false e2 q low high end new_q old =
                  let inside : has (group (quad_of i 0) j) q ≡ true = has_span (quad_of i 0 + 4 * j) 4 q ∙ tests (omega (arith, low)) (omega (arith, end)) in
                  let kept : e.bits q ≡ g.0.bits q = z.leaves.changes.bits q (λ x. other x.0 q inside x.4 x.3 (ap (λ x. x || g.1 j) old ∙ e2)) in
                  let empty : s.bits q ≡ false = (empty q (omega (arith, low)) (omega (arith, high, lt))).0 in
                  absurd (no_clash (newly q) new_q (sym (h.1 q (omega (arith, low)) (omega (arith, high))).0 ∙ kept ∙ (λ k. (d.rest k).bits q) ∙ empty))
                where
                  tests : quad_of i 0 + 4 * j ≤ q → q < quad_of i 0 + 4 * j + 4 → (nat_le (quad_of i 0 + 4 * j) q && nat_lt q (quad_of i 0 + 4 * j + 4)) ≡ true
                  tests low high = grind (arith, nat_tests)

                  other : (k q : ℕ) → has (group (quad_of i 0) j) q ≡ true → has (group (quad_of i 0) k) q ≡ true → sent g k ≡ true → sent g j ≡ false → ⊥
                  other k q inside there is_sent not_sent = grind (arith, nat_tests, no_clash, group, apart)
