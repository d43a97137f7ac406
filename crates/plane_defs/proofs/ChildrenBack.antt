-- The end decides what is read of the children.
use Rattle.std.proofs.Common.{◌≡◌, ◌⊎◌, ℕ, ◌+◌, ◌<◌, ◌&&◌, ◌||◌, not, Bool, true, false, if◌then◌else◌, List}
use Rattle.std.proofs.Common.{refl, ap, sym, ◌∙◌, subst, arith, filter, ℤ, pos, inl, inr}
use Rattle.std.specs.List.{list_any}
use lib.ListN.{get_or}
use Rattle.item_defs.specs.Bits.{digit}
use Rattle.plane_defs.specs.declared.sets.Set.TheVariants.{Descendants, Family, Grandchildren}
use Rattle.plane_defs.specs.Spans.{span}
use Rattle.plane_defs.specs.Sets.{significant, live, set_significant, type_due, newly_significant, flag_due}
use Rattle.plane_defs.specs.Codes.{is_book_sound}
use Rattle.plane_defs.specs.Entries.{negative}
use Rattle.plane_defs.specs.Steps.{Check, some_one_where}
use Rattle.plane_defs.specs.StepLaws.{SameAc}
use Rattle.plane_defs.specs.Laws.{IsMultiple}
use Rattle.plane_defs.proofs.Equations.{set_significant-is, enclosing-family}
use Rattle.plane_defs.proofs.Determined.{enclosed}
use Rattle.item_defs.specs.Scripts.{Script, done, then_ask, in_turn, ask_bit}
use Rattle.std.proofs.lemmas.Bool.{or_right}
use Rattle.plane_defs.specs.Written.{AreChosen}
use Rattle.plane_defs.specs.States.{State, with_families}
use Rattle.plane_defs.specs.WordScripts.{due_script, group_script}
use Rattle.plane_defs.specs.StageScripts.{Terms, above, is_due, descendants_script, children_script, flag_script}
use Rattle.plane_defs.proofs.SomePlaces.{family_at}
use Rattle.plane_defs.proofs.StageGoes.{any_all, family_any, due_parts, families_due}
use Rattle.plane_defs.proofs.PlacesSent as places
use Rattle.plane_defs.proofs.Answers.{May, never, may_then, Decided, decided_then}
use Rattle.plane_defs.proofs.TypesAnswers.{GroupsMay, groups_may}
use Rattle.plane_defs.proofs.StageAnswers.{FlagMay, flag_may}
use Rattle.plane_defs.proofs.PlacesSent.{here_due}
use Rattle.plane_defs.proofs.WordAnswers.{DueMay, due_may}
use Rattle.plane_defs.proofs.WordsBack.{Later, differ_span, due_decided}
use Rattle.plane_defs.proofs.TypesBack.{later_on, digit_of, Empty, groups_decided}
use Rattle.plane_defs.proofs.WordGoes.{three_long}
use Rattle.plane_defs.specs.Written.{has}
use Rattle.plane_defs.proofs.QuadsBack as quads
use Rattle.plane_defs.proofs.QuadsBack.{same_truth}

module _ (o : List ℕ) (chosen : AreChosen o) (t : Terms) (is_sound : is_book_sound t.book ≡ true) (block v : List ℤ) (same : SameAc block v (t.plane + 1))
    (whole : IsMultiple v t.weights) where
  abbrev W : List ℕ
  W = t.weights

  abbrev b : ℕ
  b = t.plane

  abbrev Right : (a c : ℕ) → State → Type 0
  Right = quads.Right o chosen t is_sound block v same whole

  abbrev sets : ℕ → Bool
  sets i = set_significant v b (Family i)

  abbrev sig : Bool
  sig = set_significant v b Descendants

  abbrev Flag : (is_live was all : Bool) → Type 0
  Flag = FlagMay false t is_sound block

  flag_decided : (is_live was : Bool) (s : State) → Decided (flag_script is_live was s) (λ all. all ≡ sig)
  flag_decided is_live was s = by (not was && is_live)
    where
      by : (x : Bool) → Decided {G = State} (if x then ask_bit s (λ b. done b) else done was) (λ all. all ≡ sig)
      by true = (digit sig, λ n said good. (λ e. digit_of n sig said e, tt))
      by false = tt

  -- what the stage leaves is what the values have
  abbrev pub End : State → Type 0
  End e = Right 4 16 e × ((i : ℕ) → i < 3 → e.families i ≡ sets i)

  pub children_decided : (s : State) → Empty 4 s → Decided (children_script t block s) End
  children_decided s empty =
      decided_then (Flag (live W b Descendants) (above t block Descendants)) (λ all. all ≡ sig) End (descendants_script t block s) after_flag
      (flag_may false t is_sound block (live W b Descendants) (above t block Descendants) s)
      (flag_decided (live W b Descendants) (above t block Descendants) s)
      (λ all flag. (
        may_then false (DueMay false (due all) (check all) (span 0 3) s) (λ e. End e → all ≡ sig) (due_script t.book (due all) (check all) (span 0 3) s)
            (after_word all) (words all)
            (λ g d. may_then false (Groups g) (λ e. End e → all ≡ sig) (groups g) (λ u. done (with_families u (sent g))) (groups_left g)
            (λ u z h. all_truth all flag g d h.1)),
        decided_then (DueMay false (due all) (check all) (span 0 3) s)
            (λ g. Later o g.0.options × ((i : ℕ) → has (filter (due all) (span 0 3)) i ≡ true → g.1 i ≡ sets i)) End
            (due_script t.book (due all) (check all) (span 0 3) s) (after_word all) (words all)
            (due_decided t.book o (due all) (check all) (span 0 3) sets s (differ_span 0 3) (three_long 0))
            (λ g d. (
              may_then false (Groups g) (λ e. End e → Later o g.0.options × ((i : ℕ) → has (filter (due all) (span 0 3)) i ≡ true → g.1 i ≡ sets i)) (groups g)
                  (λ u. done (with_families u (sent g))) (groups_left g) (λ u z h. (
                    later_on o g.0 u z.leaves.grows h.0.0,
                    λ i inside.
                        let w = here_due (due all) 3 i inside in
                        let parts = due_parts t is_sound block (Family i) all w.1 in
                        ap (λ x. x || g.1 i) (sym (set_significant-is block (b + 1) (Family i) ∙ parts.1)) ∙ h.1 i w.0,
                  )),
              decided_then (Groups g) (Right 4 16) End (groups g) (λ u. done (with_families u (sent g))) (groups_left g)
                  (groups_decided t.book o (type_due block W b) (newly_significant v W b) (λ q. negative (get_or v q (pos 0))) 4 3 (sent g) (wanted g)
                  (omega arith) g.0 (λ q low high. (let z = empty q low high in ((λ k. (d.rest k).bits q) ∙ z.0, (λ k. (d.rest k).minus q) ∙ z.1))))
                  (λ u z. (λ h. h.0, tt)),
            )),
      ))
    where
      due : Bool → ℕ → Bool
      due all i = is_due t block (Family i) all

      check : Bool → Check
      check all = some_one_where (all && not (above t block Descendants))

      sent : State × (ℕ → Bool) → ℕ → Bool
      sent g i = above t block (Family i) || g.1 i

      wanted : State × (ℕ → Bool) → ℕ → Bool
      wanted g i = g.1 i && not (live W b (Grandchildren i))

      groups : State × (ℕ → Bool) → Script State State
      groups g = in_turn (group_script t.book (type_due block W b) 4 (sent g) (wanted g)) 0 3 g.0

      Groups : State × (ℕ → Bool) → State → Type 0
      Groups g = GroupsMay false (type_due block W b) 4 (sent g) (wanted g) 0 (0 + 3) g.0

      groups_left : (g : State × (ℕ → Bool)) → May false (groups g) (Groups g)
      groups_left g = groups_may false t.book never (type_due block W b) 4 (sent g) (wanted g) 0 3 g.0 never (λ j lt x. never x)

      words : (all : Bool) → May false (due_script t.book (due all) (check all) (span 0 3) s) (DueMay false (due all) (check all) (span 0 3) s)
      words all = due_may false t.book never (due all) (check all) (span 0 3) s never never never

      after_word : Bool → State × (ℕ → Bool) → Script State State
      after_word all g = then_ask (in_turn (group_script t.book (type_due block W b) 4 (sent g) (wanted g)) 0 3 g.0) (λ u. done (with_families u (sent g)))

      after_flag : Bool → Script State State
      after_flag all = then_ask (due_script t.book (due all) (check all) (span 0 3) s) (after_word all)

      above_set : above t block Descendants ≡ true → sig ≡ true
      above_set e = sym (words_all) ∙ ap (λ x. x || (flag_due v W b Descendants && sig)) (sym
          (places.above_is o chosen t block v same whole Descendants tt) ∙ e)
        where
          words_all : (set_significant v (b + 1) Descendants || (flag_due v W b Descendants && sig)) ≡ sig
          words_all = places.flag_all o chosen t block v same whole Descendants tt

      family_in : (i : ℕ) → i < 3 → sets i ≡ true → sig ≡ true
      family_in i lt e = sym (enclosing-family v b i) ∙ enclosed v b (Family i) lt e

      above_in : (i : ℕ) → i < 3 → above t block (Family i) ≡ true → above t block Descendants ≡ true
      above_in i lt e = sym (enclosing-family block (b + 1) i) ∙ enclosed block (b + 1) (Family i) lt e

      all_truth : (all : Bool) → Flag (live W b Descendants) (above t block Descendants) all → (g : State × (ℕ → Bool)) →
          DueMay false (due all) (check all) (span 0 3) s g →
          ((i : ℕ) → i < 3 → sent g i ≡ sets i) → all ≡ sig
      all_truth all flag g d fam = same_truth all sig (λ e. there e (above t block Descendants) refl) back
        where
          there : all ≡ true → (x : Bool) → above t block Descendants ≡ x → sig ≡ true
          there e true a = above_set a
          there e false a =
              let want : (all && not (above t block Descendants)) ≡ true = ap (λ x. x && not (above t block Descendants)) e ∙ ap not a in
              let w = d.some (ap some_one_where want)
              (subst (λ x. list_any (λ i. is_due t block (Family i) x) (span 0 3) ≡ true) (sym e) (families_due t is_sound block a (flag.new e a))) in
              let here = here_due (due all) 3 w.0 w.1 in
              family_in w.0 here.0 (sym (fam w.0 here.0) ∙ or_right (above t block (Family w.0)) (g.1 w.0) w.2)

          by_cases : (x y : Bool) → (x || y) ≡ true → (x ≡ true) ⊎ (y ≡ true)
          by_cases true y e = inl refl
          by_cases false y e = inr e

          back : sig ≡ true → all ≡ true
          back e =
              let k = family_at (significant v b) (any_all t is_sound block (significant v b) (sym (set_significant-is v b Descendants) ∙ e)) in
              let in_v : sets k.0 ≡ true = set_significant-is v b (Family k.0) ∙ family_any t is_sound block (significant v b) k.0 k.2 in
              elim (by_cases (above t block (Family k.0)) (g.1 k.0) (fam k.0 k.1 ∙ in_v)) [
                | inl old ↦ flag.stays (above_in k.0 k.1 old)
                | inr new ↦ (due_parts t is_sound block (Family k.0) all (here_due (due all) 3 k.0 (d.inside k.0 new)).1).0
              ]
