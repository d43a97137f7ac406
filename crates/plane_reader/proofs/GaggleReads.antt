-- The blocks of a gaggle, one after another.
use Rattle.std.proofs.Common.{◌≡◌, ℕ, zero, suc, ◌+◌, ◌-◌, ◌*◌, ◌/◌, ◌<◌, ◌≤◌, ◌==◌, not, List, [], true, false, if◌then◌else◌, nat_lt, length, refl, sym}
use Rattle.std.proofs.Common.{ap, subst, ◌∙◌, arith, Option, Some, None, Result, Ok, Err, ℤ, pos, get_or, set, get_or-set_same, get_or-set_other}
use Rattle.std.proofs.Common.{length-set, inl, inr}
use Rattle.std.proofs.lemmas.Bool.{cases_eq, cases_lt}
use Rattle.std.proofs.lemmas.Bool.Decides.{nat_tests}
use Rattle.item_defs.specs.Bits.{bit}
use Rattle.plane_defs.specs.Marks.{depth_of}
use Rattle.block_masks.specs.declared.gaggle.Gaggle.{Gaggle}
use Rattle.block_masks.specs.Gaggles.{options_in, sent_in, families_in}
use Rattle.block_masks.specs.Masks.{Shows}
use Rattle.block_masks.specs.Slices.{mask_in, minus_slot, above_slot}
use Rattle.bit_pipe.specs.declared.fault.Part.{Part}
use Rattle.bit_pipe.specs.declared.fault.Part.TheVariants.{Whole, Ended}
use Rattle.bit_pipe.specs.declared.fault.TextFault.{TextFault}
use Rattle.bit_pipe.specs.Sources.{SourceOf}
use Rattle.bit_pipe.specs.SourceState.{IsIn}
use Rattle.item_defs.specs.Scripts.{Script, done, then_ask, in_turn, around}
use Rattle.bit_pipe.specs.ScriptSources.{got, ends, by_fault, by_part, by_done}
use Rattle.plane_defs.specs.States.{State}
use Rattle.plane_defs.specs.StageScripts.{Terms, dc_bit_script, parents_script, children_script, grandchildren_script, refinement_script, stage_script}
use Rattle.plane_defs.specs.PlaneScript.{PlaneState, of_block, with_block}
use Rattle.plane_reader.specs.Takes.{AreIn}
use Rattle.plane_reader.specs.Held.{Point, ReadsFrom, LeadsTo}
use Rattle.plane_reader.specs.Blocks.{raw_slot, IsAbove, KeepsMasks, HasRead, TakesBlock, OnWhole, stage_part}
use Rattle.plane_reader.specs.Gaggles.{AreAbove, HavePlane, HaveFamilies, KeepSlots, KeepStates, block_script, gaggle_script, TakesBlocks}
use Rattle.plane_reader.proofs.HeldReads.{leads_start, leads_then, leads_got, reads_later, reads_done, reads_cut, reads_fault}
use Rattle.plane_reader.proofs.BlockReads.{reads_around}

-- a block that stays as it is
pub has_kept : {plane r q : ℕ} {old new : List ℤ} {block : List ℤ} {s : State} → plane < 27 → KeepsMasks r plane old new → 64 * q < length old → (q ≡ r → ⊥) →
    HasRead plane q old block s → HasRead plane q new block s
has_kept {plane} {q = q} low keeps inside apart has = record {
  bits = λ p ac. ap (λ m. bit m p) (keeps.others q plane inside (omega (arith, low)) apart) ∙ has.bits p ac;
  minus = λ p ac. ap (λ m. bit m p) (keeps.others q minus_slot inside (omega arith) apart) ∙ has.minus p ac;
  raw = λ p lt. ap (λ m. bit m p) (keeps.others q raw_slot inside (omega arith) apart) ∙ has.raw p lt;
}

-- one block more
pub have_with : {plane r : ℕ} {old new : List ℤ} (numbers : List (List ℤ)) (p : PlaneState) (b : State) → plane < 27 → KeepsMasks r plane old new →
    HavePlane plane old numbers p → HasRead plane r new (get_or numbers r []) b → HavePlane plane new numbers (with_block p r b)
have_with {plane} {r} {old} {new} numbers p b low keeps have has q inside = elim (cases_eq q r) [
  | inl e ↦
      let t : (q == r) ≡ true = grind (arith, nat_tests) in
      subst (λ z. HasRead plane q new (get_or numbers q []) (if z then b else p.blocks q)) (sym t) (subst (λ n. HasRead plane n new (get_or numbers n []) b)
      (sym e) has)
  | inr apart ↦
      let t : (q == r) ≡ false = grind (arith, nat_tests) in
      let there : 64 * q < length old = subst (λ n. 64 * q < n) keeps.long inside in
      subst (λ z. HasRead plane q new (get_or numbers q []) (if z then b else p.blocks q)) (sym t) (has_kept low keeps there apart (have q there))
]

-- ---- masks of other slots

pub slots_kept : {plane : ℕ} (cells : List ℤ) → KeepSlots plane cells cells
slots_kept cells = record { long = refl; slots = λ r slot lt low apart no_sign no_raw. refl }

pub slots_then : {plane : ℕ} {old mid new : List ℤ} → KeepSlots plane old mid → KeepSlots plane mid new → KeepSlots plane old new
slots_then {old = old} p q = record {
  long = q.long ∙ p.long;
  slots = λ r slot lt low apart no_sign no_raw. q.slots r slot (subst (λ n. 64 * r < n) (sym p.long) lt) low apart no_sign no_raw ∙
      p.slots r slot lt low apart no_sign no_raw;
}

pub slots_more : {plane r : ℕ} {old mid new : List ℤ} → KeepSlots plane old mid → KeepsMasks r plane mid new → KeepSlots plane old new
slots_more {plane} {r} {mid = mid} {new} p keeps = slots_then p (record {
  long = keeps.long;
  slots = λ q slot lt low apart no_sign no_raw. elim (cases_eq q r) [
    | inl e ↦ subst (λ n. mask_in new n slot ≡ mask_in mid n slot) (sym e) (keeps.slots slot low apart no_sign no_raw)
    | inr other ↦ keeps.others q slot lt low other
  ];
})

pub above_after : {plane : ℕ} {old new : List ℤ} (numbers : List (List ℤ)) → plane < 27 → KeepSlots plane old new → AreAbove plane old numbers →
    AreAbove plane new numbers
above_after {plane} {old} numbers low keeps are r inside =
    let there : 64 * r < length old = subst (λ n. 64 * r < n) keeps.long inside in
    let same = keeps.slots r above_slot there (omega arith) (λ f. omega (arith, f, low)) (λ f. omega (arith, f)) (λ f. omega (arith, f)) in
    subst (λ m. IsAbove m (get_or numbers r []) plane) (sym same) (are r there)

-- ---- states

-- the families with one block more
pub families_with : (marks : List ℤ) (r : ℕ) (mark : ℤ) (p : PlaneState) (b : State) → r < length marks → HaveFamilies marks p → Shows (families_in
    mark) b.families 0 3 → HaveFamilies (set marks r mark) (with_block p r b)
families_with marks r mark p b inside have shown q lt = elim (cases_eq q r) [
  | inl e ↦
      let t : (q == r) ≡ true = grind (arith, nat_tests) in
      let here : get_or (set marks r mark) q (pos 0) ≡ mark = ap (λ n. get_or (set marks r mark) n (pos 0)) e ∙ get_or-set_same marks r mark (pos 0) inside in
      subst (λ z. Shows (families_in (get_or (set marks r mark) q (pos 0))) ((if z then b else p.blocks q).families) 0 3) (sym t) (subst (λ m. Shows
      (families_in m) b.families 0 3) (sym here) shown)
  | inr apart ↦
      let t : (q == r) ≡ false = grind (arith, nat_tests) in
      let there : get_or (set marks r mark) q (pos 0) ≡ get_or marks q (pos 0) = get_or-set_other marks r q mark (pos 0) apart in
      let low : q < length marks = subst (λ n. q < n) (length-set marks r mark) lt in
      subst (λ z. Shows (families_in (get_or (set marks r mark) q (pos 0))) ((if z then b else p.blocks q).families) 0 3) (sym t) (subst (λ m. Shows
      (families_in m) ((p.blocks q).families) 0 3) (sym there) (have q low))
]

-- the families of a block that sends nothing
pub families_same : (marks : List ℤ) (r : ℕ) (p : PlaneState) → HaveFamilies marks p → HaveFamilies marks (with_block p r (of_block p r))
families_same marks r p have q lt = elim (cases_eq q r) [
  | inl e ↦
      let t : (q == r) ≡ true = grind (arith, nat_tests) in
      subst (λ z. Shows (families_in (get_or marks q (pos 0))) ((if z then of_block p r else p.blocks q).families) 0 3) (sym t) (subst (λ n. Shows
      (families_in (get_or marks q (pos 0))) ((p.blocks n).families) 0 3) e (have q lt))
  | inr apart ↦
      let t : (q == r) ≡ false = grind (arith, nat_tests) in
      subst (λ z. Shows (families_in (get_or marks q (pos 0))) ((if z then of_block p r else p.blocks q).families) 0 3) (sym t) (have q lt)
]

pub states_kept : (marks : List ℤ) → KeepStates marks marks
states_kept marks = record { long = refl; depths = λ r. refl; options = λ r. refl; sent = λ r. refl }

-- a state with the same depth and options
pub states_set : (old marks : List ℤ) (r : ℕ) (mark : ℤ) → r < length marks → depth_of mark ≡ depth_of (get_or marks r (pos 0)) → options_in mark ≡ options_in
    (get_or marks r (pos 0)) → sent_in mark ≡ sent_in (get_or marks r (pos 0)) → KeepStates old marks → KeepStates old (set marks r mark)
states_set old marks r mark inside depth options sent keeps = record {
  long = length-set marks r mark ∙ keeps.long;
  depths = λ q. at_each depth_of depth q ∙ keeps.depths q;
  options = λ q. at_each options_in options q ∙ keeps.options q;
  sent = λ q. at_each sent_in sent q ∙ keeps.sent q;
}
  where
    at_each : {A : Type 0} (f : ℤ → A) → f mark ≡ f (get_or marks r (pos 0)) → (q : ℕ) → f (get_or (set marks r mark) q (pos 0)) ≡ f (get_or marks q (pos 0))
    at_each f same q = elim (cases_eq q r) [
      | inl e ↦ ap (λ n. f (get_or (set marks r mark) n (pos 0))) e ∙ ap f (get_or-set_same marks r mark (pos 0) inside) ∙ same ∙
          ap (λ n. f (get_or marks n (pos 0))) (sym e)
      | inr apart ↦ ap f (get_or-set_other marks r q mark (pos 0) apart)
    ]

-- ---- a stage of a block

module _ (t : Terms) (depth : ℕ) (block : List ℤ) (s : State) where
  pub deep_is : (stage : ℕ) → 1 ≤ stage → stage < 5 → nat_lt t.plane depth ≡ true → stage_script t stage depth block s ≡ stage_part t stage block s
  deep_is zero some lt deep = absurd (omega (arith, some))
  deep_is (suc zero) some lt deep = ap (λ b. if not b then done s else parents_script t block s) deep
  deep_is (suc (suc zero)) some lt deep = ap (λ b. if not b then done s else children_script t block s) deep
  deep_is (suc (suc (suc zero))) some lt deep = ap (λ b. if not b then done s else grandchildren_script t block s) deep
  deep_is (suc (suc (suc (suc zero)))) some lt deep = ap (λ b. if not b then done s else refinement_script t block s) deep
  deep_is (suc (suc (suc (suc (suc n))))) some lt deep = absurd (omega (arith, lt))

  pub shallow_is : (stage : ℕ) → 1 ≤ stage → nat_lt t.plane depth ≡ false → stage_script t stage depth block s ≡ done s
  shallow_is stage some shallow =
      let first : (stage == 0) ≡ false = grind (arith, nat_tests, some) in
      ap (λ z. if z then dc_bit_script t s else if not (nat_lt t.plane depth) then done s else others) first ∙
      ap (λ b. if not b then done s else others) shallow
    where
      others : Script State State
      others = if stage == 1 then parents_script t block s else if stage == 2 then children_script t block s else if stage ==
          3 then grandchildren_script t block s else refinement_script t block s

-- the blocks before the j-th were read, and m more are left
pub record BlocksLeft {I : Type 0} (k : SourceOf I) (all : Script PlaneState PlaneState) (item : ℕ → PlaneState →
    Script PlaneState PlaneState) (plane g j m : ℕ) (numbers : List (List ℤ)) (before : PlaneState) (gaggle : Gaggle) (cells marks : List ℤ)
    (old now : Point I) : Type 0 where
  pub state : PlaneState
  pub options : AreIn gaggle (state.options g)
  pub others : (h : ℕ) → (h ≡ g → ⊥) → state.options h ≡ before.options h
  pub has : HavePlane plane cells numbers state
  pub families : HaveFamilies marks state
  pub left : LeadsTo k all (in_turn item j m state) old now

module _ {I : Type 0} {k : SourceOf I} (t : Terms) (stage : ℕ) (depths : List ℕ) (numbers : List (List ℤ)) (plane g first : ℕ) (before : PlaneState) where
  pub blocks_start : {gaggle : Gaggle} {cells marks : List ℤ} {x : Point I} (count : ℕ) → IsIn x.input → AreIn gaggle (before.options g) →
      HavePlane plane cells numbers before → HaveFamilies marks before →
      BlocksLeft k (gaggle_script t stage depths numbers first count before) (block_script t stage depths numbers) plane g (first + 0)
      (count - 0) numbers before gaggle cells marks x x
  blocks_start {x = x} count i are has families =
      let e : first ≡ first + 0 = omega arith in
      let f : count ≡ count - 0 = omega arith in
      let all = gaggle_script t stage depths numbers first count before in
      let start : LeadsTo k all (in_turn (block_script t stage depths numbers) first count before) x x = leads_start all i in
      record {
        state = before;
        options = are;
        others = λ h apart. refl;
        has = has;
        families = families;
        left = subst (λ a. LeadsTo k all (in_turn (block_script t stage depths numbers) a (count - 0) before) x x) e (subst (λ c. LeadsTo k all (in_turn
            (block_script t stage depths numbers) first c before) x x) f start);
      }

  module _ {all : Script PlaneState PlaneState} {n count : ℕ} (lt : n < count) {gaggle : Gaggle} {cells marks : List ℤ} {x y : Point I} (l : BlocksLeft k all
      (block_script t stage depths numbers) plane g (first + n) (count - n) numbers before gaggle cells marks x y) where
    fewer : count - n ≡ suc (count - (n + 1))
    fewer = omega (arith, lt)

    next_is : suc (first + n) ≡ first + (n + 1)
    next_is = omega arith

    here : Script PlaneState PlaneState
    here = block_script t stage depths numbers (first + n) l.state

    rest : PlaneState → Script PlaneState PlaneState
    rest = in_turn (block_script t stage depths numbers) (suc (first + n)) (count - (n + 1))

    left_is : LeadsTo k all (then_ask here rest) x y
    unfolding here rest
    left_is = subst (λ c. LeadsTo k all (in_turn (block_script t stage depths numbers) (first + n) c l.state) x y) fewer l.left

    module _ (same : (first + n) / 16 ≡ g) (b : State) where
      gaggle_is : (g == (first + n) / 16) ≡ true
      gaggle_is = grind (arith, nat_tests)

      abbrev after : PlaneState
      after = with_block l.state (first + n) b

      -- the gaggle's options are those of the block
      options_after : (gaggle' : Gaggle) → AreIn gaggle' b.options → AreIn gaggle' (after.options g)
      options_after gaggle' are = subst (λ z. AreIn gaggle' (if z then b.options else l.state.options g)) (sym gaggle_is) are

      others_after : (h : ℕ) → (h ≡ g → ⊥) → after.options h ≡ before.options h
      others_after h apart =
          let off : (h == (first + n) / 16) ≡ false = grind (arith, nat_tests, same, apart) in
          ap (λ z. if z then b.options else l.state.options h) off ∙ l.others h apart

      -- block first + n is read as this
      pub blocks_more : {gaggle' : Gaggle} {cells' marks' : List ℤ} {z : Point I} → ReadsFrom k (block_script t stage depths numbers (first + n) l.state)
          (got after) y z → AreIn gaggle' b.options → HavePlane plane cells' numbers after → HaveFamilies marks' after →
          BlocksLeft k all (block_script t stage depths numbers) plane g (first + (n + 1)) (count - (n + 1)) numbers before gaggle' cells' marks' x z
      unfolding here rest
      blocks_more {gaggle'} {z = z} read are has families = record {
        state = after;
        options = options_after gaggle' are;
        others = others_after;
        has = has;
        families = families;
        left = subst (λ a. LeadsTo k all (in_turn (block_script t stage depths numbers) a (count - (n + 1)) after) x z) next_is (leads_then all
            (then_ask here rest) (rest after) left_is (leads_got here rest after read));
      }

      pub blocks_cut : {gaggle' : Gaggle} {cells' marks' : List ℤ} {z : Point I} → ReadsFrom k (block_script t stage depths numbers (first + n) l.state)
          (ends after) y z → AreIn gaggle' b.options → HavePlane plane cells' numbers after →
          TakesBlocks k plane g numbers before all (Ok Ended) gaggle' cells' marks' x z
      unfolding here
      blocks_cut {gaggle'} read are has = record {
        now = after;
        options = options_after gaggle' are;
        others = others_after;
        has = has;
        families = tt;
        read =
            reads_later all (then_ask here rest) (ends after) left_is (reads_cut here rest after read);
      }

      pub blocks_fault : {gaggle' : Gaggle} {cells' marks' : List ℤ} {z : Point I} (fault : TextFault) → ReadsFrom k (block_script t stage depths numbers
          (first + n) l.state) (by_fault fault after) y z → AreIn gaggle' b.options → HavePlane plane cells' numbers after →
          TakesBlocks k plane g numbers before all (Err fault) gaggle' cells' marks' x z
      unfolding here
      blocks_fault {gaggle'} fault read are has = record {
        now = after;
        options = options_after gaggle' are;
        others = others_after;
        has = has;
        families = tt;
        read = reads_later all (then_ask here rest) (by_fault fault after) left_is (reads_fault here rest after fault read);
      }

    module _ (same : (first + n) / 16 ≡ g) (some : 1 ≤ stage) (low : plane < 27) where
      block_options : AreIn gaggle (of_block l.state (first + n)).options
      block_options = subst (λ h. AreIn gaggle (l.state.options h)) (sym same) l.options

      -- a block that is not deep enough
      pub blocks_skip : IsIn y.input → nat_lt t.plane (get_or depths (first + n) 0) ≡ false → 64 * (first + n) < length cells →
          BlocksLeft k all (block_script t stage depths numbers) plane g (first + (n + 1)) (count - (n + 1)) numbers before gaggle cells marks x y
      blocks_skip i shallow inside =
          let b = of_block l.state (first + n) in
          let q = with_block l.state (first + n) b in
          let none : block_script t stage depths numbers (first + n) l.state ≡ done q = ap (around (with_block l.state (first + n))) (shallow_is t
          (get_or depths (first + n) 0) (get_or numbers (first + n) []) b stage some shallow) in
          let keeps : KeepsMasks (first + n) plane cells cells = record {
            long = refl;
            slots = λ slot lt apart not_minus not_raw. refl;
            others =
                λ a slot lt low apart. refl;
          } in
          let was = l.has (first + n) inside in
          let read : ReadsFrom k (done q) (got q) y y = reads_done (done q) q (leads_start (done q) i) in
          blocks_more same b (subst (λ r. ReadsFrom k r (got q) y y) (sym none) read) block_options (have_with numbers l.state b low keeps l.has
          (record { bits = was.bits; minus = was.minus; raw = was.raw })) (families_same marks (first + n) l.state l.families)

      -- a block whose stage was read
      module _ (most : stage < 5) (deep : nat_lt t.plane (get_or depths
          (first + n) 0) ≡ true) {gaggle' : Gaggle} {cells' : List ℤ} {mark : ℤ} {z : Point I} {result : Result Part TextFault} {c : ℕ} (at : c ≡ first + n)
          (inside : 64 * (first + n) < length cells) (in_marks : first + n < length marks)
          (above : AreAbove plane cells numbers) (keeps : KeepsMasks c plane cells cells')
          (call : (block : List ℤ) (s : State) → AreIn gaggle s.options → IsAbove (mask_in cells c above_slot) block plane → HasRead plane c cells block s →
          Shows (families_in (get_or marks c (pos 0))) s.families 0 3 → TakesBlock k plane c block
          (stage_part t stage block s) result gaggle' mark cells' y z) where
        abbrev block : List ℤ
        block = get_or numbers (first + n) []

        called : TakesBlock k plane (first + n) block (stage_part t stage block (of_block l.state (first + n))) result gaggle' mark cells' y z
        called =
            let there = subst (λ r. (block : List ℤ) (s : State) → AreIn gaggle s.options → IsAbove (mask_in cells r above_slot) block plane →
            HasRead plane r cells block s → Shows (families_in (get_or marks r (pos 0))) s.families 0 3 → TakesBlock k plane r block
            (stage_part t stage block s) result gaggle' mark cells' y z) at call in
            let was = l.has (first + n) inside in
            there block (of_block l.state (first + n)) block_options (above (first + n) inside) (record {
              bits = was.bits;
              minus = was.minus;
              raw = was.raw;
            }) (l.families (first + n) in_marks)

        deep_script : block_script t stage depths numbers (first + n) l.state ≡ around (with_block l.state (first + n)) (stage_part t stage block
            (of_block l.state (first + n)))
        deep_script = ap (around (with_block l.state (first + n))) (deep_is t (get_or depths (first + n) 0) block (of_block l.state
            (first + n)) stage some most deep)

        end : PlaneState
        end = with_block l.state (first + n) called.now

        have_end : HavePlane plane cells' numbers end
        unfolding end
        have_end = have_with numbers l.state called.now low (subst (λ r. KeepsMasks r plane cells cells') at keeps) l.has called.has

        around_called : {X : Type 0} (o : Result (Option X) TextFault) → ReadsFrom k (stage_part t stage block (of_block l.state (first + n)))
            (by_done o called.now called.now) y z → ReadsFrom k (block_script t stage depths numbers (first + n) l.state) (by_done o end end) y z
        unfolding end
        around_called o read = subst (λ r. ReadsFrom k r (by_done o end end) y z) (sym deep_script) (reads_around (with_block l.state (first + n))
            (stage_part t stage block (of_block l.state (first + n))) o called.now read)

        called_as : (o : Result Part TextFault) → result ≡ o → ReadsFrom k (stage_part t stage block (of_block l.state (first + n)))
            (by_part o called.now called.now) y z
        called_as o e = subst (λ u. ReadsFrom k (stage_part t stage block (of_block l.state (first + n))) (by_part u called.now called.now) y z) e called.read

        pub block_whole : result ≡ Ok Whole → BlocksLeft k all (block_script t stage depths numbers) plane g (first + (n + 1)) (count -
            (n + 1)) numbers before gaggle' cells' (set marks c mark) x z
        unfolding end
        block_whole e =
            let shown : Shows (families_in mark) called.now.families 0 3 = subst (λ u. OnWhole u (Shows (families_in
            mark) called.now.families 0 3)) e called.families in
            blocks_more same called.now (around_called {X = Unit {0}} (Ok (Some tt)) (called_as (Ok Whole) e)) called.options have_end
            (subst (λ r. HaveFamilies (set marks r mark) (with_block l.state (first + n) called.now)) (sym at) (families_with marks
            (first + n) mark l.state called.now in_marks l.families shown))

        pub block_cut : result ≡ Ok Ended → {marks' : List ℤ} → TakesBlocks k plane g numbers before all (Ok Ended) gaggle' cells' marks' x z
        unfolding end
        block_cut e = blocks_cut same called.now (around_called {X = Unit {0}} (Ok None) (called_as (Ok Ended) e)) called.options have_end

        pub block_fault : (fault : TextFault) → result ≡ Err fault → {marks' : List ℤ} → TakesBlocks k plane g numbers before all
            (Err fault) gaggle' cells' marks' x z
        unfolding end
        block_fault fault e = blocks_fault same called.now fault (around_called {X = Unit {0}} (Err fault) (called_as (Err fault) e)) called.options have_end

  pub blocks_done : {all : Script PlaneState PlaneState} {n count : ℕ} {gaggle : Gaggle} {cells marks : List ℤ} {x y : Point I} → count ≤ n →
      BlocksLeft k all (block_script t stage depths numbers) plane g (first + n) (count - n) numbers before gaggle cells marks x y →
      TakesBlocks k plane g numbers before all (Ok Whole) gaggle cells marks x y
  blocks_done {all} {n} {count} {x = x} {y} ge l =
      let none : count - n ≡ 0 = omega (arith, ge) in
      record {
        now = l.state;
        options = l.options;
        others = l.others;
        has = l.has;
        families = l.families;
        read = reads_done all l.state (subst (λ c. LeadsTo k all (in_turn (block_script t stage depths numbers) (first + n) c l.state) x y) none l.left);
      }

-- ---- the deep blocks of a mask, one after another

-- the blocks before the n-th were read, and a mask has the deep ones that are left
pub record DeepLeft {I : Type 0} (k : SourceOf I) (t : Terms) (stage : ℕ) (depths : List ℕ) (numbers : List (List ℤ)) (plane g first count : ℕ)
    (before : PlaneState)
    (all : Script PlaneState PlaneState) (deep mask : ℕ) (gaggle : Gaggle) (cells marks : List ℤ) (old now : Point I) : Type 0 where
  pub n : ℕ
  pub within : n ≤ count
  pub none : (i : ℕ) → i < n → bit mask i ≡ false
  pub kept : (i : ℕ) → n ≤ i → i < count → bit mask i ≡ bit deep i
  pub blocks : BlocksLeft k all (block_script t stage depths numbers) plane g (first + n) (count - n) numbers before gaggle cells marks old now

module _ {I : Type 0} {k : SourceOf I} (t : Terms) (stage : ℕ) (depths : List ℕ) (numbers : List (List ℤ)) (plane g first count : ℕ) (before : PlaneState) where
  pub deep_start : (deep : ℕ) {gaggle : Gaggle} {cells marks : List ℤ} {x : Point I} → IsIn x.input → AreIn gaggle (before.options g) →
      HavePlane plane cells numbers before →
      HaveFamilies marks before →
      DeepLeft k t stage depths numbers plane g first count before (gaggle_script t stage depths numbers first count before) deep deep gaggle cells marks x x
  deep_start deep i are has families = record {
    n = 0;
    within = omega arith;
    none = λ j lt. absurd (omega (arith, lt));
    kept = λ j le lt. refl;
    blocks = blocks_start t stage depths numbers plane g first before count i are has families;
  }

  module _ {all : Script PlaneState PlaneState} {gaggle : Gaggle} {cells marks : List ℤ} {x y : Point I} (some : 1 ≤ stage) (low : plane < 27) (is_in
      : IsIn y.input)
      (fits : (i : ℕ) → i < count → ((first + i) / 16 ≡ g) × (64 * (first + i) < length cells)) where
    -- blocks that are not deep
    blocks_past : (m n : ℕ) → n + m ≤ count → ((i : ℕ) → n ≤ i → i < n + m → nat_lt t.plane (get_or depths (first + i) 0) ≡ false) →
        BlocksLeft k all (block_script t stage depths numbers) plane g (first + n) (count - n) numbers before gaggle cells marks x y →
        BlocksLeft k all (block_script t stage depths numbers) plane g (first + (n + m)) (count - (n + m)) numbers before gaggle cells marks x y
    blocks_past zero n le shallow l =
        let e : n ≡ n + 0 = omega arith in
        subst (λ a. BlocksLeft k all (block_script t stage depths numbers) plane g (first + a) (count - a) numbers before gaggle cells marks x y) e l
    blocks_past (suc m) n le shallow l =
        let lt : n < count = omega (arith, le) in
        let e : (n + 1) + m ≡ n + suc m = omega arith in
        let f = fits n lt in
        let next = blocks_skip t stage depths numbers plane g first before lt l f.0 some low is_in (shallow n (omega arith) (omega arith)) f.1 in
        subst (λ a. BlocksLeft k all (block_script t stage depths numbers) plane g (first + a) (count - a) numbers before gaggle cells marks x y) e
        (blocks_past m (n + 1) (omega (arith, le)) (λ i low high. shallow i (omega (arith, low)) (omega (arith, high))) next)

    -- the blocks up to the next deep one
    pub deep_to : {deep mask : ℕ} → Shows deep (λ r. nat_lt t.plane (get_or depths r 0)) first count →
        (l : DeepLeft k t stage depths numbers plane g first count before all deep mask gaggle cells marks x y) → (j : ℕ) → j ≤ count → l.n ≤ j → ((i : ℕ) →
        i < j → bit mask i ≡ false) →
        BlocksLeft k all (block_script t stage depths numbers) plane g (first + j) (count - j) numbers before gaggle cells marks x y
    deep_to deeps l j le ge none =
        let e : l.n + (j - l.n) ≡ j = omega (arith, ge) in
        subst (λ a. BlocksLeft k all (block_script t stage depths numbers) plane g (first + a) (count - a) numbers before gaggle cells marks x y) e
        (blocks_past (j - l.n) l.n (omega (arith, ge, le)) (λ i low high.
        let less : i < j = omega (arith, high, ge) in
        sym (deeps.at i (omega (arith, less, le))) ∙ sym (l.kept i low (omega (arith, less, le))) ∙ none i less) l.blocks)

  -- the first deep block was read
  pub deep_after : {all : Script PlaneState PlaneState} {deep mask mask' : ℕ} {gaggle gaggle' : Gaggle} {cells marks cells' marks' : List ℤ} {x y z : Point I}
      (few : count ≤ 16) →
      (l : DeepLeft k t stage depths numbers plane g first count before all deep mask gaggle cells marks x y) → (j : ℕ) → j < count → l.n ≤ j → ((i : ℕ) →
      i < j → bit mask i ≡ false) →
      bit mask' j ≡ false → ((i : ℕ) → i < 64 → (i ≡ j → ⊥) → bit mask' i ≡ bit mask i) →
      BlocksLeft k all (block_script t stage depths numbers) plane g (first + (j + 1)) (count - (j + 1)) numbers before gaggle' cells' marks' x z →
      DeepLeft k t stage depths numbers plane g first count before all deep mask' gaggle' cells' marks' x z
  deep_after {mask' = mask'} few l j lt ge none gone others blocks = record {
    n = j + 1;
    within = omega (arith, lt);
    none = λ i less. elim (cases_eq i j) [
      | inl e ↦ subst (λ a. bit mask' a ≡ false) (sym e) gone
      | inr apart ↦ others i (omega (arith, less, lt, few)) apart ∙ none i (omega (arith, less, apart))
    ];
    kept = λ i le less. others i (omega (arith, less, few)) (λ e. omega (arith, e, le)) ∙ l.kept i (omega (arith, le, ge)) less;
    blocks = blocks;
  }

-- the mask has the first deep block that is left
pub next_is_left : {n k : ℕ} (mask : ℕ) → ((i : ℕ) → i < n → bit mask i ≡ false) → bit mask k ≡ true → n ≤ k
next_is_left {n} {k} mask none has = elim (cases_lt k n) [
  | inl lt ↦ absurd (clash (sym has ∙ none k lt))
  | inr ge ↦ ge
]
  where
    clash : true ≡ false → ⊥
    clash e = cc
