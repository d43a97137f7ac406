-- What a block sends of its grandchildren, as it is read from a window that is held.
use Rattle.std.proofs.Common.{◌≡◌, ℕ, ◌+◌, ◌<◌, Bool, true, false, not, ◌&&◌, ◌||◌, if◌then◌else◌, ℤ, List, [], map, filter, refl, ap, sym, ◌∙◌}
use Rattle.std.proofs.Common.{subst, arith, Ok, Err, Some, None, Result, Option}
use Rattle.std.specs.List.{list_any}
use Rattle.item_defs.specs.Bits.{bit}
use Rattle.plane_defs.specs.declared.sets.Set.TheVariants.{Family, Grandchildren, Quad}
use Rattle.base_122.specs.declared.book.Book.{Book}
use Rattle.plane_defs.specs.Spans.{span}
use Rattle.plane_defs.specs.Steps.{some_one_where, ones_at}
use Rattle.plane_defs.specs.Sets.{coded, significant, members, children_of, type_due, quad_of}
use Rattle.plane_defs.specs.StepLaws.{IsAc}
use Rattle.plane_defs.proofs.Above.{all_acs, any_alike}
use Rattle.block_masks.specs.declared.gaggle.Gaggle.{Gaggle}
use Rattle.block_masks.specs.Masks.{Shows}
use Rattle.bit_pipe.specs.declared.fault.TextFault.{TextFault}
use Rattle.bit_pipe.specs.Sources.{SourceOf}
use Rattle.item_defs.specs.Scripts.{Script, done, then_ask, in_turn, run}
use Rattle.bit_pipe.specs.ScriptSources.{Gets, by_done}
use Rattle.plane_defs.specs.States.{State, with_options}
use Rattle.plane_defs.specs.WordScripts.{due_script, group_script}
use Rattle.plane_defs.specs.StageScripts.{Terms, above, is_due, is_childless, quads_script}
use Rattle.plane_reader.specs.declared.found.Found.{Found}
use Rattle.plane_reader.specs.Takes.{IsState}
use Rattle.plane_reader.specs.Held.{Point}
use Rattle.plane_reader.specs.HeldTakes.{HeldState, HeldOnes}
use Rattle.plane_reader.specs.Blocks.{IsAbove}
use Rattle.plane_reader.specs.Grandchildren.{sixteen_script}
use Rattle.plane_reader.proofs.HeldReads.{reads_then, reads_cut, reads_fault}
use Rattle.plane_reader.proofs.HeldGroups.{GroupsLeft}
use Rattle.plane_reader.proofs.TypeReads.{on}
use Rattle.plane_reader.proofs.SetMarks.{shows_range, was_set, due_set, is_set}

-- a part of a stage, and then another that reads on from its word
module _ {I : Type 0} {k : SourceOf I} (word : Script State (State × (ℕ → Bool))) (next : State × (ℕ → Bool) →
    Script State State) (start count : ℕ) (s : State) {h : Gaggle} {f : Found} (is : IsState h f s) {h' : Gaggle} {x y : Point I} where
  pub word_fault : (fault : TextFault) → HeldOnes k word start count s (Err fault) h' x y → HeldState {X = Unit {0}} k (then_ask word next) (Err fault) h' f x y
  word_fault fault p = record { now = with_options s p.options; is = on is p.known; read = reads_fault word next (with_options s p.options) fault p.read }

  pub word_cut : HeldOnes k word start count s (Ok None) h' x y → HeldState {X = Unit {0}} k (then_ask word next) (Ok None) h' f x y
  word_cut p = record { now = with_options s p.options; is = on is p.known; read = reads_cut word next (with_options s p.options) p.read }

  pub word_then : {places : ℕ} (p : HeldOnes k word start count s (Ok (Some places)) h' x y) (result : Result (Option
      (Unit {0})) TextFault) {h'' : Gaggle} {f'' : Found} {z : Point I} →
      (let r : State × (ℕ → Bool) = (with_options s p.options, p.ones) in HeldState k (next r) result h'' f'' y z) →
      HeldState k (then_ask word next) result h'' f'' x z
  word_then p result q =
      let r : State × (ℕ → Bool) = (with_options s p.options, p.ones) in
      record { now = q.now; is = q.is; read = reads_then word next r (by_done result q.now q.now) p.read q.read }

-- ---- a set of sixteen

module _ (t : Terms) (block : List ℤ) (mask : ℕ) (marked : IsAbove mask block t.plane) (i : ℕ) (known : i < 3) where
  pub quads_due : {due : ℕ} → Shows due (λ j. not (list_any (bit mask) (members (Quad i j))) && list_any (coded t.weights t.plane) (members (Quad i j))) 0 4 →
      Shows due (λ j. is_due t block (Quad i j) true) 0 4
  quads_due shown = shows_range (λ k lt. whole _ ∙ due_set t block mask marked (Quad i (0 + k)) (known, omega (arith, lt)) true) shown
    where
      whole : (b : Bool) → b ≡ (b && true)
      whole true = refl
      whole false = refl

  pub quads_now : (new : ℕ → Bool) {quads : ℕ} → Shows quads (λ j. list_any (bit mask) (members (Quad i j)) || new j) 0 4 →
      Shows quads (λ j. above t block (Quad i j) || new j) 0 4
  quads_now new shown = shows_range (λ k lt. is_set t block mask marked (Quad i (0 + k)) (known, omega (arith, lt)) (new (0 + k))) shown

module _ (t : Terms) (block : List ℤ) (i : ℕ) where
  abbrev pub quads_word : Bool → State → Script State (State × (ℕ → Bool))
  quads_word new s = due_script t.book (λ j. is_due t block (Quad i j) true) (some_one_where new) (span 0 4) s

  abbrev pub quads_types : State × (ℕ → Bool) → Script State State
  quads_types r = in_turn (group_script t.book (type_due block t.weights t.plane) (quad_of i 0) (λ j. above t block (Quad i j) || r.1 j) r.1) 0 4 r.0

-- the first position is given in another way
pub groups_at : {I X : Type 0} {k : SourceOf I} (book : Book) (due now wanted : ℕ → Bool) (n : ℕ) (s : State) (result : Result
    (Option X) TextFault) {a b : ℕ} → a ≡ b → {h : Gaggle} {f : Found} {x y : Point I} →
    HeldState k (in_turn (group_script book due a now wanted) 0 n s) result h f x y → HeldState k (in_turn
    (group_script book due b now wanted) 0 n s) result h f x y
groups_at {k = k} book due now wanted n s result e {h} {f} {x} {y} q = subst (λ c. HeldState k (in_turn
    (group_script book due c now wanted) 0 n s) result h f x y) e q

-- ---- the sets of sixteen of a mask, one after another

module _ (t : Terms) (block : List ℤ) (now new : ℕ → Bool) {sent : ℕ} (shown : Shows sent now 0 3) where
  is_sent : (i : ℕ) → i < 3 → bit sent i ≡ now i
  is_sent i lt = let z : 0 + i ≡ i = omega arith in shown.at i lt ∙ ap now z

  -- a set that is not significant sends nothing
  pub sixteen_skipped : {h : Gaggle} {f : Found} (i : ℕ) → i < 3 → bit sent i ≡ false → (s : State) → IsState h f s →
      (u : State) × IsState h f u × Gets (sixteen_script t block now new i s) [] u
  sixteen_skipped i lt off s is = (s, is, λ more. ap (λ b. run (if b then quads_script t block i (new i) s else done s) more) (sym (is_sent i lt) ∙ off))

  -- the call for a set of the mask
  module _ {I : Type 0} {k : SourceOf I} {all : Script State State} {left : ℕ} {h : Gaggle} {f : Found} {old here : Point I} (m : GroupsLeft k all
      (sixteen_script t block now new) 3 sent left h f old here) (i : ℕ) (e : m.n ≡ i) (lt : i < 3) (on : bit left i ≡ true) (is_new : Bool)
      (flag : is_new ≡ new i) {result : Result (Option (Unit {0})) TextFault} {h' : Gaggle} {f' : Found} {last : Point I} where
    pub sixteen_called : HeldState k (quads_script t block i is_new m.state) result h' f' here last →
        HeldState k (sixteen_script t block now new m.n m.state) result h' f' here last
    sixteen_called q =
        let is_now : now i ≡ true = sym (is_sent i lt) ∙ sym (m.kept i (omega (arith, e)) (omega (arith, lt))) ∙ on in
        subst (λ n. HeldState k (sixteen_script t block now new n m.state) result h' f' here last) (sym e)
        (subst (λ b. HeldState k (if b then quads_script t block i (new i) m.state else done m.state) result h' f' here last) (sym is_now)
        (subst (λ b. HeldState k (quads_script t block i b m.state) result h' f' here last) flag q))

-- ---- the flags of the sets of sixteen

module _ (t : Terms) (block : List ℤ) (mask : ℕ) (marked : IsAbove mask block t.plane) (earlier : State) where
  pub sixteens_due : {due : ℕ} → Shows due (λ i. (not (list_any (bit mask) (members (Grandchildren i))) && list_any (coded t.weights t.plane) (members
      (Grandchildren i))) && earlier.families i) 0 3 →
      Shows due (λ i. is_due t block (Grandchildren i) (earlier.families i)) 0 3
  sixteens_due shown = shows_range (λ k lt. due_set t block mask marked (Grandchildren (0 + k)) (omega (arith, lt)) (earlier.families (0 + k))) shown

  pub sixteens_now : (new : ℕ → Bool) {sixteens : ℕ} → Shows sixteens (λ i. list_any (bit mask) (members (Grandchildren i)) || new i) 0 3 →
      Shows sixteens (λ i. above t block (Grandchildren i) || new i) 0 3
  sixteens_now new shown = shows_range (λ k lt. is_set t block mask marked (Grandchildren (0 + k)) (omega (arith, lt)) (new (0 + k))) shown

  -- the families that are new, and of which no child is significant
  module _ (now : ℕ) (seen : (p : ℕ) → IsAc p → bit now p ≡ (significant block (t.plane + 1) p || earlier.bits p)) where
    no_child : (i : ℕ) → i < 3 → list_any (bit now) (span (children_of i) 4) ≡ list_any (λ p. significant block (t.plane + 1) p || earlier.bits p) (span
        (children_of i) 4)
    no_child i lt = any_alike (bit now) (λ p. significant block (t.plane + 1) p || earlier.bits p) (span (children_of i) 4) (all_acs (children_of i) 4
        (omega arith) (omega (arith, lt))) seen

    pub forced_shown : {wanted : ℕ} → Shows wanted (λ i. is_due t block (Grandchildren i) (earlier.families i) && ((not (list_any (bit mask) (members
        (Family i))) && earlier.families i) && not (list_any (bit now) (span (children_of i) 4)))) 0 3 →
        Shows wanted (λ i. is_due t block (Grandchildren i) (earlier.families i) && is_childless t block earlier i) 0 3
    forced_shown shown = shows_range (λ k lt. ap (λ b. is_due t block (Grandchildren (0 + k)) (earlier.families (0 + k)) && b) (same (0 + k) (omega (
      arith,
      lt,
    )))) shown
      where
        turned_round : (a b c : Bool) → ((not a && b) && c) ≡ ((b && not a) && c)
        turned_round true true c = refl
        turned_round true false c = refl
        turned_round false true c = refl
        turned_round false false c = refl

        same : (i : ℕ) → i < 3 → ((not (list_any (bit mask) (members (Family i))) && earlier.families i) && not (list_any (bit now) (span
            (children_of i) 4))) ≡ is_childless t block earlier i
        same i lt =
            (λ j. (not (was_set t block mask marked (Family i) lt j) && earlier.families i) && not (no_child i lt j)) ∙
            turned_round (above t block (Family i)) (earlier.families i) (not (list_any (λ p. significant block (t.plane + 1) p || earlier.bits p) (span
            (children_of i) 4)))

module _ (t : Terms) (block : List ℤ) where
  abbrev pub sixteens_word : State → State → Script State (State × (ℕ → Bool))
  sixteens_word earlier s =
      let due : ℕ → Bool = λ i. is_due t block (Grandchildren i) (earlier.families i) in
      due_script t.book due (ones_at (map (is_childless t block earlier) (filter due (span 0 3)))) (span 0 3) s

  abbrev pub sixteens_rest : State × (ℕ → Bool) → Script State State
  sixteens_rest r = in_turn (sixteen_script t block (λ i. above t block (Grandchildren i) || r.1 i) r.1) 0 3 r.0
