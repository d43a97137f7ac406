-- The items of a block's stages follow their scripts.
use Rattle.std.proofs.Common.{◌≡◌, ℕ, suc, ◌+◌, ◌*◌, ◌≤◌, ◌<◌, ◌&&◌, ◌||◌, not, Bool, true, false, if◌then◌else◌, List, [], ◌∷◌, ◌++◌, map}
use Rattle.std.proofs.Common.{filter, refl, ap, sym, ◌∙◌, subst, arith, ℤ}
use Rattle.std.specs.List.{list_any}
use Rattle.std.proofs.lemmas.Bool.Decides.{nat_tests}
use Rattle.std.proofs.Math.Bool.{or-false}
use Rattle.plane_defs.specs.declared.entries.Entry.{Entry}
use Rattle.plane_defs.specs.declared.entries.Entry.TheVariants.{Bit}
use Rattle.plane_defs.specs.declared.sets.Set.{Set}
use Rattle.plane_defs.specs.declared.sets.Set.TheVariants.{Descendants, Family, Grandchildren, Quad}
use Rattle.plane_defs.specs.Spans.{span}
use Rattle.plane_defs.specs.Sets.{significant, live, set_significant, type_due, flag_due, children_of}
use Rattle.plane_defs.specs.Sets.{grandchildren_of, quad_of}
use Rattle.plane_defs.specs.Entries.{flags}
use Rattle.plane_defs.specs.Steps.{free, ones_at, step, is_new, is_forced, some_one_where, flags_step, parents_steps, descendants_check}
use Rattle.plane_defs.specs.Steps.{children_types_steps, children_steps, three_grandchildren, grandchildren_check, quads_types_steps, quads_steps}
use Rattle.plane_defs.specs.Steps.{all_quads_steps, grandchildren_steps}
use Rattle.plane_defs.specs.StepLaws.{entries_of, IsAc, SameAc}
use Rattle.plane_defs.specs.Laws.{IsMultiple}
use Rattle.plane_defs.proofs.WordGoes.{three_long}
use Rattle.plane_defs.proofs.Equations.{enclosing-family, enclosing-grandchildren, enclosing-quad, is_new-is, is_forced-grandchildren, set_significant-is}
use Rattle.plane_defs.proofs.Equations.{newly_significant-is, type_due-is}
use Rattle.plane_defs.proofs.Determined.{still_significant}
use Rattle.plane_defs.proofs.Settled.{type_undue}
use Rattle.plane_defs.proofs.Alike.{all_filter, filter_same, in_three}
use Rattle.plane_defs.proofs.Above.{all_span, any_alike}
use Rattle.plane_defs.proofs.AlikeSteps.{in_family, in_quad, map_equal}
use Rattle.item_defs.specs.Scripts.{Script, done, in_turn}
use Rattle.plane_defs.specs.Written.{Knows, AreChosen}
use Rattle.plane_defs.specs.States.{State, with_options, with_families}
use Rattle.plane_defs.specs.WordScripts.{due_script, group_script}
use Rattle.plane_defs.specs.StageScripts.{Terms, above, is_due, parents_script, descendants_script, children_script, is_childless, quads_script}
use Rattle.plane_defs.specs.StageScripts.{grandchildren_script}
use Rattle.plane_defs.proofs.Sending.{flat_map_filter, Sends, sends_none, sends_then, sends_last, sends_in_turn}
use Rattle.plane_defs.proofs.PlacesSent as places
use Rattle.plane_defs.proofs.PlacesSent.{At, map_filter_map}
use Rattle.plane_defs.proofs.FlagsSent as words

pub three_sets : (S : ℕ → Set) → map S (span 0 3) ≡ S 0 ∷ S 1 ∷ S 2 ∷ []
unfolding span
three_sets S = refl

pub four_sets : (S : ℕ → Set) → map S (span 0 4) ≡ S 0 ∷ S 1 ∷ S 2 ∷ S 3 ∷ []
unfolding span
four_sets S = refl

module _ (o : List ℕ) (chosen : AreChosen o) (t : Terms) (block v : List ℤ) (same : SameAc block v (t.plane + 1)) (whole : IsMultiple v t.weights) where
  abbrev W : List ℕ
  W = t.weights

  abbrev b : ℕ
  b = t.plane

  abbrev Reads : (n m : ℕ) → (ℕ → Bool) → Bool → List Entry → State → Type 0
  Reads = At o v W b

  abbrev Flags : (ℕ → Set) → ℕ → State → List Entry → State × (ℕ → Bool) → Type 0
  Flags = words.Flags o chosen t block v same whole

  -- the families that are significant
  abbrev pub sets : ℕ → Bool
  sets i = set_significant v b (Family i)

  pub reads_on : (n m : ℕ) (families : ℕ → Bool) (dc : Bool) (before now : List Entry) (s u : State) → Reads n m families dc before s → Knows o now u.options →
      u ≡ with_options s u.options → Reads n m families dc now u
  reads_on n m families dc before now s u r knows e = record {
    knows = knows;
    bits = λ q ac. (λ i. (e i).bits q) ∙ r.bits q ac;
    minus = λ q ac. (λ i. (e i).minus q) ∙ r.minus q ac;
    enclosing = λ i lt. (λ k. (e k).families i) ∙ r.enclosing i lt;
    low = (λ i. (e i).bits 0) ∙ r.low;
  }

  -- ---- stage 1

  pub parents_sent : (m : ℕ) (families : ℕ → Bool) (dc : Bool) (before : List Entry) (s : State) → Reads 1 m families dc before s →
      Sends t.book o (parents_script t block s) before (parents_steps v W b) (Reads 4 m families dc)
  parents_sent m families dc before s r =
      places.types_sent o chosen t block v same whole 1 3 m families dc (omega arith) (omega arith) (omega arith) (three_long 1) false before s r

  -- ---- stage 2

  pub children_sent : (m : ℕ) (families : ℕ → Bool) (dc : Bool) (before : List Entry) (s : State) → Reads 4 m families dc before s →
      Sends t.book o (children_script t block s) before (children_steps v W b) (Reads 16 m sets dc)
  children_sent m families dc before s r =
      let first = map (λ x. step free (Bit x)) (flags v W b (Descendants ∷ [])) in
      let flags_of = flags_step v W b (descendants_check v b) (Family 0 ∷ Family 1 ∷ Family 2 ∷ []) in
      sends_then t.book o (λ now. words.Flag o chosen t block v same whole now s) (Reads 16 m sets dc) (descendants_script t block s) _ before first
      (flags_of ∷ children_types_steps v W b) (words.flag_sent o chosen t block v same whole before s r.knows)
      (λ all p.
      let now = before ++ entries_of first in
      sends_then t.book o (Flags Family 3 s) (Reads 16 m sets dc)
      (due_script t.book (λ i. is_due t block (Family i) all) (some_one_where (all && not (above t block Descendants))) (span 0 3) s) _ now (flags_of ∷ [])
      (children_types_steps v W b)
      (words.flags_as o chosen t block v same whole Family 3 (omega arith) (λ i lt. lt) (λ i. all) (λ i lt. p.is ∙ sym (enclosing-family v b i))
      (some_one_where (all && not (above t block Descendants))) (descendants_check v b)
      (ap some_one_where (ap (λ x. x && not (above t block Descendants)) p.is ∙
      ap (λ x. set_significant v b Descendants && not x) (places.above_is o chosen t block v same whole Descendants tt) ∙ sym (is_new-is v b Descendants)))
      (Family 0 ∷ Family 1 ∷ Family 2 ∷ []) (three_sets Family) now s p.knows)
      (λ f w.
      let sent : ℕ → Bool = λ i. above t block (Family i) || f.1 i in
      let wanted : ℕ → Bool = λ i. f.1 i && not (live W b (Grandchildren i)) in
      sends_last t.book o (Reads 16 m families dc) (Reads 16 m sets dc) (in_turn (group_script t.book (type_due block W b) 4 sent wanted) 0 3 f.0)
      (λ u. with_families u sent) (now ++ entries_of (flags_of ∷ [])) (children_types_steps v W b)
      (words.groups_sent o chosen t block v same whole 4 3 m families dc sent wanted sets (λ i. is_new v b (Family i) && not (live W b (Grandchildren i)))
      children_of (λ j. refl) (omega arith) (omega arith) (λ j lt. w.all j lt) (λ j lt. ap (λ x. x && not (live W b (Grandchildren j))) (w.new j lt))
      (λ j lt e. in_family v b j e) (now ++ entries_of (flags_of ∷ [])) f.0
      (reads_on 4 m families dc before (now ++ entries_of (flags_of ∷ [])) s f.0 r w.knows w.rest))
      (λ later u z. record { knows = z.knows; bits = z.bits; minus = z.minus; enclosing = w.all; low = z.low })))

  -- ---- stage 3

  -- a number of the children is significant above, or was read so
  here_is : (m : ℕ) → m ≤ 1 → (dc : Bool) (before : List Entry) (s : State) → Reads 16 m sets dc before s → (p : ℕ) → IsAc p → p < 16 →
      (significant block (b + 1) p || s.bits p) ≡ significant v b p
  here_is m le dc before s r p ac lt = grind (arith, nat_tests, type_due-is, still_significant, type_undue, or-false, newly_significant-is)

  childless_is : (m : ℕ) → m ≤ 1 → (dc : Bool) (before : List Entry) (s : State) → Reads 16 m sets dc before s → (i : ℕ) → i < 3 →
      is_childless t block s i ≡ is_forced v b (Grandchildren i)
  childless_is m le dc before s r i lt =
      ap (λ x. x && not (list_any (λ p. significant block (b + 1) p || s.bits p) (span (children_of i) 4)))
      (ap (λ x. x && not (above t block (Family i))) (r.enclosing i lt) ∙
      ap (λ x. set_significant v b (Family i) && not x) (places.above_is o chosen t block v same whole (Family i) lt) ∙ sym (is_new-is v b (Family i))) ∙
      ap (λ x. is_new v b (Family i) && not x)
      (any_alike {P = λ p. IsAc p × (p < 16)} (λ p. significant block (b + 1) p || s.bits p) (significant v b) (span (children_of i) 4)
      (all_span (λ p. IsAc p × (p < 16)) (children_of i) 4 (λ p low high. ((omega (arith, low), omega (arith, high, lt)), omega (arith, high, lt))))
      (λ p h. here_is m le dc before s r p h.0 h.1)) ∙ sym (is_forced-grandchildren v b i)

  pub forced_same : (m : ℕ) → m ≤ 1 → (dc : Bool) (before : List Entry) (s : State) → Reads 16 m sets dc before s →
      ones_at (map (is_childless t block s) (filter (λ i. is_due t block (Grandchildren i) (s.families i)) (span 0 3))) ≡
      grandchildren_check v W b three_grandchildren
  forced_same m le dc before s r =
      ap ones_at (ap (map (is_childless t block s)) (filter_same (λ i. is_due t block (Grandchildren i) (s.families i)) (λ i. flag_due v W b
      (Grandchildren i)) (span 0 3)
      (in_three (λ i. is_due t block (Grandchildren i) (s.families i) ≡ flag_due v W b (Grandchildren i)) (due 0 (omega arith)) (due 1 (omega arith))
      (due 2 (omega arith)))) ∙
      map_equal (is_childless t block s) (λ i. is_forced v b (Grandchildren i)) (filter (λ i. flag_due v W b (Grandchildren i)) (span 0 3))
      (all_filter (λ i. is_childless t block s i ≡ is_forced v b (Grandchildren i)) (λ i. flag_due v W b (Grandchildren i)) (span 0 3)
      (in_three (λ i. is_childless t block s i ≡ is_forced v b (Grandchildren i)) (forced 0 (omega arith)) (forced 1 (omega arith)) (forced 2 (omega arith)))) ∙
      sym (map_filter_map (is_forced v b) (flag_due v W b) Grandchildren (span 0 3)) ∙
      ap (λ l. map (is_forced v b) (filter (flag_due v W b) l)) (three_sets Grandchildren))
    where
      due : (i : ℕ) → i < 3 → is_due t block (Grandchildren i) (s.families i) ≡ flag_due v W b (Grandchildren i)
      due i lt = places.due_is o chosen t block v same whole (Grandchildren i) (s.families i) lt (r.enclosing i lt ∙ sym (enclosing-grandchildren v b i))

      forced : (i : ℕ) → i < 3 → is_childless t block s i ≡ is_forced v b (Grandchildren i)
      forced i lt = childless_is m le dc before s r i lt

  pub quads_sent : (m : ℕ) (dc : Bool) (i : ℕ) → i < 3 → set_significant v b (Grandchildren i) ≡ true → (new : Bool) → new ≡ is_new v b (Grandchildren i) →
      (before : List Entry) (s : State) → Reads (16 + 16 * i) m sets dc before s →
      Sends t.book o (quads_script t block i new s) before (quads_steps v W b i) (Reads (16 + 16 * suc i) m sets dc)
  quads_sent m dc i lt in_set new is before s r =
      let flags_of = flags_step v W b (some_one_where (is_new v b (Grandchildren i))) (Quad i 0 ∷ Quad i 1 ∷ Quad i 2 ∷ Quad i 3 ∷ []) in
      let now = before ++ entries_of (flags_of ∷ []) in
      let start : 16 + 16 * i ≡ quad_of i 0 = omega arith in
      let end : quad_of i 0 + 4 * 4 ≡ 16 + 16 * suc i = omega arith in
      sends_then t.book o (Flags (λ j. Quad i j) 4 s) (Reads (16 + 16 * suc i) m sets dc)
      (due_script t.book (λ j. is_due t block (Quad i j) true) (some_one_where new) (span 0 4) s) _ before (flags_of ∷ []) (quads_types_steps v W b i)
      (words.flags_as o chosen t block v same whole (λ j. Quad i j) 4 (omega arith) (λ j small. (lt, small)) (λ j. true)
      (λ j small. sym (enclosing-quad v b i j ∙ in_set)) (some_one_where new) (some_one_where (is_new v b (Grandchildren i))) (ap some_one_where is)
      (Quad i 0 ∷ Quad i 1 ∷ Quad i 2 ∷ Quad i 3 ∷ []) (four_sets (λ j. Quad i j)) before s r.knows)
      (λ f w.
      let sent : ℕ → Bool = λ j. above t block (Quad i j) || f.1 j in
      subst (λ k. Sends t.book o (in_turn (group_script t.book (type_due block W b) (quad_of i 0) sent f.1) 0 4 f.0) now (quads_types_steps v W b i)
      (Reads k m sets dc)) end
      (words.groups_sent o chosen t block v same whole (quad_of i 0) 4 m sets dc sent f.1 (λ j. set_significant v b (Quad i j)) (λ j. is_new v b (Quad i j))
      (quad_of i) (λ j. (let e : quad_of i 0 + 4 * j ≡ quad_of i j = omega arith in e)) (omega arith) (omega (arith, lt)) (λ j small. w.all j small)
      (λ j small. w.new j small) (λ j small e. in_quad v b i j e) now f.0
      (subst (λ k. Reads k m sets dc now f.0) start (reads_on (16 + 16 * i) m sets dc before now s f.0 r w.knows w.rest))))

  -- the i-th sixteen, if its set is significant
  pub sixteen_sent : (m : ℕ) (dc : Bool) (i : ℕ) → i < 3 → (sent new : Bool) → sent ≡ set_significant v b (Grandchildren i) →
      new ≡ is_new v b (Grandchildren i) →
      (c : List Entry) (u : State) → Reads (16 + 16 * i) m sets dc c u →
      Sends t.book o (if sent then quads_script t block i new u else done u) c
      (if set_significant v b (Grandchildren i) then quads_steps v W b i else []) (Reads (16 + 16 * suc i) m sets dc)
  sixteen_sent m dc i lt sent new all is_new c u p = by (set_significant v b (Grandchildren i)) refl
    where
      by : (x : Bool) → set_significant v b (Grandchildren i) ≡ x →
          Sends t.book o (if sent then quads_script t block i new u else done u) c
          (if set_significant v b (Grandchildren i) then quads_steps v W b i else []) (Reads (16 + 16 * suc i) m sets dc)
      by true e =
          subst (λ (y : Bool). Sends t.book o (if y then quads_script t block i new u else done u) c
          (if set_significant v b (Grandchildren i) then quads_steps v W b i else []) (Reads (16 + 16 * suc i) m sets dc)) (sym (all ∙ e))
          (subst (λ (y : Bool). Sends t.book o (quads_script t block i new u) c (if y then quads_steps v W b i else []) (Reads
          (16 + 16 * suc i) m sets dc)) (sym e)
          (quads_sent m dc i lt e new is_new c u p))
      by false e =
          subst (λ (y : Bool). Sends t.book o (if y then quads_script t block i new u else done u) c
          (if set_significant v b (Grandchildren i) then quads_steps v W b i else []) (Reads (16 + 16 * suc i) m sets dc)) (sym (all ∙ e))
          (subst (λ (y : Bool). Sends {G = State} t.book o (done u) c (if y then quads_steps v W b i else []) (Reads (16 + 16 * suc i) m sets dc)) (sym e)
          (sends_none t.book o (Reads (16 + 16 * suc i) m sets dc) u c
          (words.reads_skip o chosen t block v same whole (16 + 16 * i) (16 + 16 * suc i) m sets dc (omega arith)
          (λ q low high. words.quiet o chosen t block v same whole (grandchildren_of i) 16 q (sym (set_significant-is v b (Grandchildren i)) ∙
          e) low (omega (arith, high))) c u p)))

  pub grandchildren_sent : (m : ℕ) → m ≤ 1 → (dc : Bool) (before : List Entry) (s : State) → Reads 16 m sets dc before s →
      Sends t.book o (grandchildren_script t block s) before (grandchildren_steps v W b) (Reads 64 m sets dc)
  grandchildren_sent m le dc before s r =
      let flags_of = flags_step v W b (grandchildren_check v W b three_grandchildren) three_grandchildren in
      let now = before ++ entries_of (flags_of ∷ []) in
      let check = ones_at (map (is_childless t block s) (filter (λ i. is_due t block (Grandchildren i) (s.families i)) (span 0 3))) in
      sends_then t.book o (Flags Grandchildren 3 s) (Reads 64 m sets dc)
      (due_script t.book (λ i. is_due t block (Grandchildren i) (s.families i)) check (span 0 3) s) _ before (flags_of ∷ []) (all_quads_steps v W b)
      (words.flags_as o chosen t block v same whole Grandchildren 3 (omega arith) (λ i lt. lt) s.families
      (λ i lt. r.enclosing i lt ∙ sym (enclosing-grandchildren v b i)) check (grandchildren_check v W b three_grandchildren) (forced_same m le dc before s r)
      three_grandchildren (three_sets Grandchildren) before s r.knows)
      (λ f w. subst (λ l. Sends t.book o (turns f) now l (Reads 64 m sets dc)) (sym (flat_map_filter (quads_steps v W b) in_v (span 0 3)))
      (sends_in_turn t.book o (λ i. Reads (16 + 16 * i) m sets dc)
      (λ i u. if above t block (Grandchildren i) || f.1 i then quads_script t block i (f.1 i) u else done u)
      (λ i. if in_v i then quads_steps v W b i else []) 0 3
      (λ i c u low high p. sixteen_sent m dc i (omega (arith, high)) (above t block (Grandchildren i) || f.1 i) (f.1 i) (w.all i (omega (arith, high)))
      (w.new i (omega (arith, high))) c u p) now f.0
      (reads_on 16 m sets dc before now s f.0 r w.knows w.rest)))
    where
      in_v : ℕ → Bool
      in_v i = set_significant v b (Grandchildren i)

      turns : State × (ℕ → Bool) → Script State State
      turns f = in_turn (λ i u. if above t block (Grandchildren i) || f.1 i then quads_script t block i (f.1 i) u else done u) 0 3 f.0
