-- The end decides what is read of the grandchildren.
use Rattle.std.proofs.Common.{◌≡◌, ℕ, suc, ◌+◌, ◌-◌, ◌*◌, ◌≤◌, ◌<◌, ◌&&◌, ◌||◌, nat_lt, nat_le, Bool, true, false, if◌then◌else◌, List, pos}
use Rattle.std.proofs.Common.{map, filter, refl, ap, sym, ◌∙◌, arith, ℤ}
use Rattle.std.proofs.lemmas.Bool.Decides.{nat_tests}
use lib.ListN.{get_or}
use Rattle.plane_defs.specs.Entries.{negative}
use Rattle.plane_defs.specs.declared.sets.Set.TheVariants.{Grandchildren}
use Rattle.plane_defs.specs.Spans.{span}
use Rattle.plane_defs.specs.Sets.{significant, set_significant, newly_significant, type_due}
use Rattle.plane_defs.specs.Codes.{is_book_sound}
use Rattle.plane_defs.specs.Steps.{Check, ones_at}
use Rattle.plane_defs.specs.StepLaws.{SameAc}
use Rattle.plane_defs.specs.Laws.{IsMultiple}
use Rattle.plane_defs.proofs.Equations.{set_significant-is}
use Rattle.plane_defs.proofs.Determined.{list_any-span-here}
use Rattle.item_defs.specs.Scripts.{Script, done, in_turn}
use Rattle.std.proofs.lemmas.Bool.{or_right}
use Rattle.plane_defs.proofs.StageGoes.{no_clash}
use Rattle.plane_defs.specs.Written.{has, AreChosen}
use Rattle.plane_defs.specs.States.{State}
use Rattle.plane_defs.specs.WordScripts.{due_script}
use Rattle.plane_defs.specs.StageScripts.{Terms, above, is_due, is_childless, quads_script, grandchildren_script}
use Rattle.plane_defs.proofs.StageGoes.{due_parts}
use Rattle.plane_defs.proofs.PlacesSent as places
use Rattle.plane_defs.proofs.PlacesSent.{has_span, in_span, here_due}
use Rattle.plane_defs.proofs.Answers.{May, never, may_weaker, Decided, decided_more, decided_then, decided_in_turn}
use Rattle.plane_defs.proofs.StageAnswers.{sixteen, sixteens_apart, QuadsMay, quads_may, SixteensMay, sixteens_may}
use Rattle.plane_defs.proofs.WordAnswers.{DueMay, due_may}
use Rattle.plane_defs.proofs.WordsBack.{Later, differ_span, due_decided}
use Rattle.plane_defs.proofs.WordGoes.{three_long}
use Rattle.plane_defs.proofs.TypesBack.{later_on, Empty, passes}
use Rattle.plane_defs.proofs.QuadsBack as quads
use Rattle.plane_defs.proofs.QuadsBack.{same_truth}

module _ (o : List ℕ) (chosen : AreChosen o) (t : Terms) (is_sound : is_book_sound t.book ≡ true) (block v : List ℤ) (same : SameAc block v (t.plane + 1))
    (whole : IsMultiple v t.weights) where
  abbrev W : List ℕ
  W = t.weights

  abbrev b : ℕ
  b = t.plane

  abbrev newly : ℕ → Bool
  newly = newly_significant v W b

  abbrev due : ℕ → Bool
  due = type_due block W b

  abbrev Right : (a c : ℕ) → State → Type 0
  Right = quads.Right o chosen t is_sound block v same whole

  -- ---- the grandchildren, sixteen by sixteen

  sixteens_decided : (sent new : ℕ → Bool) (s : State) → Empty 16 s →
      Decided (in_turn (λ i u. if sent i then quads_script t block i (new i) u else done u) 0 3 s) (Right 16 64)
  sixteens_decided sent new s empty =
      (decided_in_turn (λ i. Empty (16 + 16 * i)) (λ i. Right 16 (16 + 16 * i)) (λ i u. if sent i then quads_script t block i (new i) u else done u) 0 3
      (λ i u low lt p. one i u (omega (arith, lt)) p (sent i)) s empty).1
    where
      one : (i : ℕ) (u : State) → i < 3 → Empty (16 + 16 * i) u → (x : Bool) →
          May false (if x then quads_script t block i (new i) u else done u)
          (λ w. Empty (16 + 16 * suc i) w × (Right 16 (16 + 16 * suc i) w → Right 16 (16 + 16 * i) u)) ×
          Decided (if x then quads_script t block i (new i) u else done u) (Right 16 (16 + 16 * suc i))
      one i u lt p true = (
        may_weaker false (QuadsMay false t is_sound block i (new i) u)
            (λ w. Empty (16 + 16 * suc i) w × (Right 16 (16 + 16 * suc i) w → Right 16 (16 + 16 * i) u)) (quads_script t block i (new i) u)
            (λ w z. passes t.book o due newly (λ q. negative (get_or v q (pos 0))) (λ q. (has (sixteen i) q ≡ true) × (due q ≡ true)) 16 (16 + 16 * i)
            (16 + 16 * suc i) (omega arith) (λ q x. (let k = in_span (16 + 16 * i) 16 q x.0 in (k.0, omega (arith, k.1)))) u w z.leaves p)
            (quads_may false t is_sound block i (new i) u never (λ x. never x)),
        decided_more (Right (16 + 16 * i) (16 + 16 * suc i)) (Right 16 (16 + 16 * suc i)) (quads_script t block i (new i) u)
            (λ w h. (h.0, λ q from to. h.1 q (omega (arith, from)) to)) (quads.quads_decided o chosen t is_sound block v same whole i lt (new i) u p),
      )
      one i u lt p false = ((λ q low top. p q (omega (arith, low)) top, λ h. (h.0, λ q from to. h.1 q from (omega (arith, to)))), tt)

  -- ---- stage 3

  pub grandchildren_decided : (s : State) → Empty 16 s → Decided (grandchildren_script t block s) (Right 16 64)
  grandchildren_decided s empty =
      decided_then (DueMay false set check (span 0 3) s) Q (Right 16 64) (due_script t.book set check (span 0 3) s) next
      (due_may false t.book never set check (span 0 3) s never never never)
      (due_decided t.book o set check (span 0 3) (λ i. set_significant v b (Grandchildren i)) s (differ_span 0 3) (three_long 0))
      (λ g d. (
        may_weaker false (SixteensMay false t is_sound block (sent g) g.1 0 (0 + 3) g.0) (λ e. Right 16 64 e → Q g) (next g)
            (λ e z h. (
              later_on o g.0 e z.leaves.grows h.0,
              λ i inside. (let w = here_due set 3 i inside in truth g e d z h i w.0 w.1),
            )) (sixteens_may false t is_sound block (sent g) g.1 0 3 g.0 never (λ x. never x)),
        sixteens_decided (sent g) g.1 g.0
            (λ q low high. (let z = empty q low high in ((λ k. (d.rest k).bits q) ∙ z.0, (λ k. (d.rest k).minus q) ∙ z.1))),
      ))
    where
      set : ℕ → Bool
      set i = is_due t block (Grandchildren i) (s.families i)

      check : Check
      check = ones_at (map (is_childless t block s) (filter set (span 0 3)))

      sent : State × (ℕ → Bool) → ℕ → Bool
      sent g i = above t block (Grandchildren i) || g.1 i

      next : State × (ℕ → Bool) → Script State State
      next g = in_turn (λ i u. if above t block (Grandchildren i) || g.1 i then quads_script t block i (g.1 i) u else done u) 0 3 g.0

      Q : State × (ℕ → Bool) → Type 0
      Q g = Later o g.0.options × ((i : ℕ) → has (filter set (span 0 3)) i ≡ true → g.1 i ≡ set_significant v b (Grandchildren i))

      truth : (g : State × (ℕ → Bool)) (e : State) → DueMay false set check (span 0 3) s g →
          SixteensMay false t is_sound block (sent g) g.1 0 (0 + 3) g.0 e → Right 16 64 e → (i : ℕ) → i < 3 → set i ≡ true →
          g.1 i ≡ set_significant v b (Grandchildren i)
      truth g e d z h i lt is_due_i = same_truth (g.1 i) (set_significant v b (Grandchildren i)) there back
        where
          there : g.1 i ≡ true → set_significant v b (Grandchildren i) ≡ true
          there e1 =
              let x = z.some i (omega arith) lt (or_right (above t block (Grandchildren i)) (g.1 i) e1) e1 (s.families i) is_due_i in
              let k = in_span (16 + 16 * i) 16 x.0 x.1 in
              let q : 16 + 16 * i + (x.0 - (16 + 16 * i)) ≡ x.0 = omega (arith, k.0) in
              let sig : significant v b (16 + 16 * i + (x.0 - (16 + 16 * i))) ≡ true = ap (significant v b) q ∙
              quads.sig_of_new o chosen t is_sound block v same whole x.0 (sym (h.1 x.0 (omega (arith, k.0)) (omega (arith, k.1, lt))).0 ∙ x.2) in
              set_significant-is v b (Grandchildren i) ∙ list_any-span-here (significant v b) (16 + 16 * i) 16 (x.0 - (16 + 16 * i)) (omega
              (arith, k.0, k.1)) sig

          back : set_significant v b (Grandchildren i) ≡ true → g.1 i ≡ true
          back e1 =
              let parts = due_parts t is_sound block (Grandchildren i) (s.families i) is_due_i in
              let old : above t block (Grandchildren i) ≡ false = set_significant-is block (b + 1) (Grandchildren i) ∙ parts.1 in
              let none : set_significant v (b + 1) (Grandchildren i) ≡ false = sym (places.above_is o chosen t block v same whole (Grandchildren i) lt) ∙ old in
              let x = quads.new_member o chosen t is_sound block v same whole (16 + 16 * i) 16 (sym (set_significant-is v b (Grandchildren i)) ∙ e1)
              (sym (set_significant-is v (b + 1) (Grandchildren i)) ∙ none) in
              by (g.1 i) refl (16 + 16 * i + x.0) (omega arith) (omega (arith, x.1)) x.2 old
            where
              by : (y : Bool) → g.1 i ≡ y → (q : ℕ) → 16 + 16 * i ≤ q → q < 16 + 16 * i + 16 → newly q ≡ true → above t block (Grandchildren i) ≡ false →
                  y ≡ true
              by true e2 q low high new_q old = refl
              by false e2 q low high new_q old =
                  let inside : has (sixteen i) q ≡ true = has_span (16 + 16 * i) 16 q ∙ tests low high in
                  let kept : e.bits q ≡ g.0.bits q = z.leaves.changes.bits q (λ x. other x.0 inside x.4 x.3 (ap (λ x. x || g.1 i) old ∙ e2)) in
                  let empty : s.bits q ≡ false =
                  (empty q (omega (arith, low)) (omega (arith, high, lt))).0 in
                  absurd (no_clash (newly q) new_q (sym (h.1 q (omega (arith, low)) (omega (arith, high, lt))).0 ∙ kept ∙ (λ k. (d.rest k).bits q) ∙
                  empty))
                where
                  tests : 16 + 16 * i ≤ q → q < 16 + 16 * i + 16 → (nat_le (16 + 16 * i) q && nat_lt q (16 + 16 * i + 16)) ≡ true
                  tests low high = grind (arith, nat_tests)

                  other : (k : ℕ) → has (sixteen i) q ≡ true → has (sixteen k) q ≡ true → sent g k ≡ true → sent g i ≡ false → ⊥
                  other k inside there is_sent not_sent = grind (arith, nat_tests, no_clash, sixteen, sixteens_apart)
