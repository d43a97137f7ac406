-- Blocks, as a stage reads them.
use Rattle.std.proofs.Common.{◌≡◌, ℕ, ◌+◌, ◌*◌, ◌<◌, ◌≤◌, ◌^◌, ◌==◌, ◌&&◌, ◌||◌, not, List, ◌++◌, Bool, true, false, length, refl, sym, ap, subst, ◌∙◌}
use Rattle.std.proofs.Common.{arith, Option, Some, None, Result, Ok, Err, ℤ, pos, get_or, pow_pos, if◌then◌else◌}
use Rattle.std.proofs.lemmas.Nat.Bits.{bit_at_above}
use Rattle.item_defs.specs.Bits.{bit}
use Rattle.plane_defs.specs.Sets.{significant, coded, type_due}
use Rattle.plane_defs.specs.StepLaws.{IsAc}
use Rattle.plane_defs.specs.Entries.{negative}
use Rattle.plane_defs.proofs.Equations.{type_due-is}
use Rattle.block_masks.specs.declared.gaggle.Gaggle.{Gaggle}
use Rattle.block_masks.specs.Gaggles.{families_in}
use Rattle.block_masks.specs.Masks.{Shows}
use Rattle.block_masks.specs.Slices.{mask_in, minus_slot, PutsMask}
use Rattle.block_masks.proofs.Viewing.{shows_own}
use Rattle.bit_pipe.specs.declared.fault.Part.TheVariants.{Whole, Ended}
use Rattle.bit_pipe.specs.declared.fault.TextFault.{TextFault}
use Rattle.bit_pipe.specs.declared.fault.TextFault.TheVariants as texts
use Rattle.bit_pipe.specs.Sources.{SourceOf}
use Rattle.item_defs.specs.Outcomes.{Outcome, whole, cut, refused}
use Rattle.item_defs.specs.Scripts.{Script, around}
use Rattle.bit_pipe.specs.ScriptSources.{Found as Finding, got, ends, refuses, fails, by_fault, by_done}
use Rattle.bit_pipe.proofs.ScriptReading.{run_around}
use Rattle.plane_defs.specs.States.{State}
use Rattle.plane_defs.specs.StageScripts.{Terms, parents_script, children_script, refinement_script}
use Rattle.plane_reader.specs.declared.found.Found.{Found}
use Rattle.plane_reader.specs.Takes.{AreIn, IsState, Marks, OnSome}
use Rattle.plane_reader.specs.Held.{Point, ReadsFrom}
use Rattle.plane_reader.specs.HeldTakes.{HeldState, HeldFamilies}
use Rattle.plane_reader.specs.Grandchildren.{grandchildren_from}
use Rattle.plane_reader.specs.Blocks.{raw_slot, IsAbove, AddsRaw, Applies, HasRead, HeldStage, TakesBlock, part_from, stage_part}
use Rattle.plane_reader.proofs.Frames.{as_read, as_before, beside, mapped, blank, beside_blank, parents_frame, grandchildren_frame, refinement_frame}
use Rattle.plane_reader.proofs.Frames.{children_frame, around_is}

-- ---- a part that is read and put back

abbrev found_in : {S T : Type 0} → (S → T) → Finding S S → Finding T T
found_in put (got a) = got (put a)
found_in put (ends g) = ends (put g)
found_in put (refuses g name) = refuses (put g) name
found_in put (fails g e) = fails (put g) e

abbrev outcome_in : {S T : Type 0} → (S → T) → Outcome S S → Outcome T T
outcome_in put (whole a left) = whole (put a) left
outcome_in put (cut g) = cut (put g)
outcome_in put (refused g name left) = refused (put g) name left

module _ {S T : Type 0} (put : S → T) where
  fault_in : (fault : TextFault) (s : S) → found_in put (by_fault fault s) ≡ by_fault fault (put s)
  fault_in texts.BadOption s = refl
  fault_in texts.BadDelta s = refl
  fault_in texts.BadDepth s = refl
  fault_in texts.FalseFlag s = refl
  fault_in texts.ReadFault s = refl
  fault_in texts.LongInput s = refl
  fault_in texts.Broken s = refl

  done_in : {X : Type 0} (result : Result (Option X) TextFault) (s : S) → found_in put (by_done result s s) ≡ by_done result (put s) (put s)
  done_in (Ok (Some x)) s = refl
  done_in (Ok None) s = refl
  done_in (Err fault) s = fault_in fault s

  module _ {I : Type 0} {k : SourceOf I} (r : Script S S) {x y : Point I} where
    found_around : (f : Finding S S) → ReadsFrom k r f x y → ReadsFrom k (around put r) (found_in put f) x y
    found_around (got a) q = record {
      bits = q.bits;
      moves = q.moves;
      says = λ more. run_around put r (q.bits ++ more) ∙ ap (outcome_in put) (q.says more);
      stops = tt;
    }
    found_around (ends g) q = record { bits = q.bits; moves = q.moves; says = run_around put r q.bits ∙ ap (outcome_in put) q.says; stops = q.stops }
    found_around (refuses g name) q = record {
      bits = q.bits;
      moves = q.moves;
      says = λ more. run_around put r (q.bits ++ more) ∙ ap (outcome_in
          put) (q.says more);
      stops = tt;
    }
    found_around (fails g e) q = record { bits = q.bits; moves = q.moves; says = run_around put r q.bits ∙ ap (outcome_in put) q.says; stops = q.stops }

  pub reads_around : {I X : Type 0} {k : SourceOf I} (r : Script S S) (result : Result (Option X) TextFault) (s : S) {x y : Point I} →
      ReadsFrom k r (by_done result s s) x y → ReadsFrom k (around put r) (by_done result (put s) (put s)) x y
  reads_around {k = k} r result s {x} {y} q = subst (λ f. ReadsFrom k (around put r) f x y) (done_in result s) (found_around r (by_done result s s) q)

-- ---- masks of a block

pub either_at : {a b r : ℕ} → ((f g : ℕ → Bool) (start count : ℕ) → Shows a f start count → Shows b g start count → Shows r (λ p. f p || g p) start count) →
    a < 2 ^ 64 → b < 2 ^ 64 → (p : ℕ) → p < 64 → bit r p ≡ (bit a p || bit b p)
either_at {a} {b} {r} if_known la lb p lt =
    let z : 0 + p ≡ p = omega arith in
    (if_known (bit a) (bit b) 0 64 (shows_own a 64 la) (shows_own b 64 lb)).at p lt ∙ ap (λ q. bit a q || bit b q) z

-- the mask of raw bits, if there are some
pub raw_put : {r raw all : ℕ} {old new : List ℤ} → PutsMask r raw_slot all old new → ((p : ℕ) → p < 64 → bit all p ≡ (bit (mask_in old r raw_slot) p || bit raw
    p)) → AddsRaw r raw old new
raw_put {old = old} {new} put bits = record {
  long = put.long;
  bits = λ p lt. ap (λ m. bit m p) put.here ∙ bits p lt;
  slots = put.other_slots;
  others = put.other_blocks;
}

pub masks_put : {r plane bits minus : ℕ} {found : Found} {old given mid new : List ℤ} → plane < 27 → AddsRaw r found.raw old given →
    PutsMask r minus_slot minus given mid → PutsMask r plane bits mid new → 64 * r < length old →
    ((p : ℕ) → p < 64 → bit bits p ≡ (bit (mask_in given r plane) p || bit found.bits p)) → ((p : ℕ) → p < 64 → bit minus p ≡ (bit (mask_in
    given r minus_slot) p || bit found.minus p)) → Applies plane r found old new
masks_put {r} {plane} {found = found} {old = old} {given} {mid} {new} low raw first second within bits minus = record {
  keeps = record {
    long = second.long ∙ first.long ∙ raw.long;
    slots = λ slot lt apart not_minus not_raw. second.other_slots slot lt apart ∙ first.other_slots slot lt not_minus ∙ raw.slots slot lt not_raw;
    others = λ q slot inside lt apart. second.other_blocks q slot (omega (arith, inside, first.long, raw.long)) lt apart ∙ first.other_blocks q slot
        (omega (arith, inside, raw.long)) lt apart ∙ raw.others q slot inside lt apart;
  };
  bits = λ p lt. ap (λ m. bit m p) second.here ∙ bits p lt ∙ ap (λ m. bit m p || bit found.bits p) (raw.slots plane (omega (arith, low)) (λ e. omega (
    arith,
    e,
    low,
  )));
  minus = λ p lt. ap (λ m. bit m p) (second.other_slots minus_slot (omega arith) (λ e. omega (arith, e, low)) ∙ first.here) ∙ minus p lt ∙
      ap (λ m. bit m p || bit found.minus p) (raw.slots minus_slot (omega arith) (λ e. omega (arith, e)));
  raw = λ p lt. ap (λ m. bit m p) (second.other_slots raw_slot (omega arith) (λ e. omega (arith, e, low)) ∙ first.other_slots raw_slot (omega arith)
      (λ e. omega (arith, e))) ∙ raw.bits p lt;
}

-- what is significant before a stage
pub seen_is : {above there now plane r : ℕ} {numbers cells : List ℤ} {s : State} → ((f g : ℕ → Bool) (start count : ℕ) → Shows above f start count →
    Shows there g start count → Shows now (λ p. f p || g p) start count) → above < 2 ^ 64 → there < 2 ^ 64 →
    IsAbove above numbers plane → there ≡ mask_in cells r plane → HasRead plane r cells numbers s → (p : ℕ) → IsAc p →
    bit now p ≡ (significant numbers (plane + 1) p || s.bits p)
seen_is {above} {there} {plane = plane} {numbers = numbers} if_known la lb marked e has p ac =
    either_at if_known la lb p ac.1 ∙ ap (λ b. b || bit there p) (marked p ac) ∙ ap (λ b. significant numbers (plane + 1) p || b) (ap (λ m. bit m p) e ∙
    has.bits p ac)

-- the types that are due
pub due_marks : {due above mask : ℕ} (plane : ℕ) (weights : List ℕ) (block : List ℤ) → ((f g : ℕ → Bool) (start count : ℕ) → Shows above f start count →
    Shows mask g start count → Shows due (λ p. not (f p) && g p) start count) → above < 2 ^ 64 → Shows mask (coded weights plane) 0 64 →
    IsAbove above block plane → (start count : ℕ) → 1 ≤ start → start + count ≤ 64 → Marks due (type_due block weights plane) start count
due_marks {due} {above} {mask} plane weights block if_known fits shown is_above start count low high k lt =
    let z : 0 + (start + k) ≡ start + k = omega arith in
    let within : start + k < 64 = omega (arith, lt, high) in
    (if_known (bit above) (coded weights plane) 0 64 (shows_own above 64 fits) shown).at (start + k) within ∙
    ap (λ p. not (bit above p) && coded weights plane p) z ∙
    ap (λ b. not b && coded weights plane (start + k)) (is_above (start + k) (omega (arith, low), within)) ∙ sym (type_due-is block weights plane (start + k))

-- ---- a block

nothing_shown : (f : ℕ → Bool) → ((p : ℕ) → f p ≡ false) → Shows 0 f 0 64
nothing_shown f none = record { at = λ k lt. zero_bit k ∙ sym (none (0 + k)); small = pow_pos 64 }
  where
    zero_bit : (k : ℕ) → bit 0 k ≡ false
    zero_bit k = ap (λ x. x == 1) (bit_at_above 0 0 k (omega arith) (omega arith))

abbrev pub nothing_found : Found
nothing_found = record { bits = 0; minus = 0; raw = 0 }

-- nothing was found yet
pub blank_found : {g : Gaggle} {f : Found} (s : State) → f.bits ≡ 0 → f.minus ≡ 0 → f.raw ≡ 0 → AreIn g s.options → IsState g f (blank s)
blank_found s none no_minus no_raw are = record {
  options = are;
  bits = subst (λ m. Shows m (λ p. false) 0 64) (sym none) (nothing_shown (λ p. false) (λ p. refl));
  minus = subst (λ m. Shows m (λ p. false) 0 64) (sym no_minus) (nothing_shown (λ p. false) (λ p. refl));
  raw = subst (λ m. Shows m (λ p. false) 0 64) (sym no_raw) (nothing_shown (λ p. false) (λ p. refl));
}

-- ---- a stage beside what was read before

module _ (part : State → Script State State) (s : State) (families : (ℕ → Bool) → ℕ → Bool) (same : families s.families ≡ s.families)
    (frame : (u : State) → part (beside s.bits s.raw s.minus families u) ≡ mapped (beside s.bits s.raw s.minus families) (beside s.bits s.raw s.minus
    families) (part u)) where
  part_beside : around (beside s.bits s.raw s.minus families) (part (blank s)) ≡ part s
  part_beside = sym (frame (blank s) ∙ around_is (beside s.bits s.raw s.minus families) (part (blank s))) ∙ ap part (beside_blank s families same)

  module _ {I : Type 0} {k : SourceOf I} {g : Gaggle} {f : Found} {x y : Point I} (now : State) (is : IsState g f now) where
    pub stage_held : (result : Result (Option ℕ) TextFault) → OnSome result (λ m. Shows m (families now.families) 0 3) →
        ReadsFrom k (part (blank s)) (by_done result now now) x y → HeldStage k (part s) s result g f x y
    stage_held result shown read =
        let end = beside s.bits s.raw s.minus families now in
        record {
          now = end;
          options = is.options;
          bits = λ p lt. let z : 0 + p ≡ p = omega arith in ap (λ b. s.bits p || b) (sym (is.bits.at p lt ∙ ap now.bits z));
          minus = λ p lt. let z : 0 + p ≡ p = omega arith in ap (λ b. s.minus p || b) (sym (is.minus.at p lt ∙ ap now.minus z));
          raw = λ p lt. let z : 0 + p ≡ p = omega arith in ap (λ b. s.raw p || b) (sym (is.raw.at p lt ∙ ap now.raw z));
          families = shown;
          read = subst (λ z. ReadsFrom k z (by_done result end end) x y) part_beside (reads_around (beside s.bits s.raw s.minus families) (part
              (blank s)) result now read);
        }

-- stages 1, 3 and 4
part_frame : (t : Terms) (stage : ℕ) (block : List ℤ) (earlier : State) (bits raw minus : ℕ → Bool) (families : (ℕ → Bool) → ℕ → Bool) (u : State) →
    part_from t stage block earlier (beside bits raw minus families u) ≡ mapped (beside bits raw minus families) (beside bits raw minus families)
    (part_from t stage block earlier u)
part_frame t stage block earlier bits raw minus families u = by_stage (stage == 1) (stage == 3)
  where
    put : State → State
    put = beside bits raw minus families

    by_stage : (one three : Bool) → (if one then parents_script t block (beside bits raw minus families u) else if three then grandchildren_from t block earlier
        (beside bits raw minus families u) else refinement_script t block (beside bits raw minus families u)) ≡
        mapped (beside bits raw minus families) (beside bits raw minus families)
        (if one then parents_script t block u else if three then grandchildren_from t block earlier u else refinement_script t block u)
    by_stage true three = parents_frame bits raw minus families t block u
    by_stage false true = grandchildren_frame bits raw minus families t block earlier u
    by_stage false false = refinement_frame bits raw minus families t block u

abbrev numbers_part : Terms → (stage : ℕ) → List ℤ → State → State → Script State State
numbers_part t stage block s u = part_from t stage block s u

module _ {I : Type 0} {k : SourceOf I} (t : Terms) (stage : ℕ) (block : List ℤ) (s : State) {g : Gaggle} {f : Found} {x y : Point I} where
  held_part : stage == 2 ≡ false → (result : Result (Option ℕ) TextFault) → HeldStage k (part_from t stage block s s) s result g f x y →
      HeldStage k (stage_part t stage block s) s result g f x y
  held_part other result h = subst (λ b. HeldStage k (if b then children_script t block s else part_from t stage block s s) s result g f x y) (sym other) h

  numbers_stage : (o : Result (Option (Unit {0})) TextFault) (result : Result (Option ℕ) TextFault) → OnSome result (λ m. Shows m s.families 0 3) →
      ((h : State) → ReadsFrom k (numbers_part t stage block s (blank s)) (by_done o h h) x y → ReadsFrom k (numbers_part t stage block s (blank s))
      (by_done result h h) x y) →
      stage == 2 ≡ false → HeldState k (numbers_part t stage block s (blank s)) o g f x y → HeldStage k (stage_part t stage block s) s result g f x y
  numbers_stage o result shown turn other h =
      held_part other result (stage_held (numbers_part t stage block s) s (as_before s.families) refl (part_frame t stage block s s.bits s.raw s.minus
      (as_before s.families)) h.now h.is result shown (turn h.now h.read))

  pub numbers_fault : (fault : TextFault) → stage == 2 ≡ false → HeldState {X = Unit {0}} k (numbers_part t stage block s (blank s)) (Err fault) g f x y →
      HeldStage k (stage_part t stage block s) s (Err fault) g f x y
  numbers_fault fault = numbers_stage (Err fault) (Err fault) tt (λ h r. r)

  pub numbers_cut : stage == 2 ≡ false → HeldState {X = Unit {0}} k (numbers_part t stage block s (blank s)) (Ok None) g f x y →
      HeldStage k (stage_part t stage block s) s (Ok None) g f x y
  numbers_cut = numbers_stage (Ok None) (Ok None) tt (λ h r. r)

  pub numbers_read : {m : ℕ} → Shows m s.families 0 3 → stage == 2 ≡ false → HeldState {X = Unit {0}} k (numbers_part t stage block s (blank s)) (Ok
      (Some tt)) g f x y → HeldStage k (stage_part t stage block s) s (Ok (Some m)) g f x y
  numbers_read {m} shown = numbers_stage (Ok (Some tt)) (Ok (Some m)) shown (λ h r. r)

  -- stage 2
  pub children_read : (result : Result (Option ℕ) TextFault) → stage == 2 ≡ true → HeldFamilies k (children_script t block (blank s)) result g f x y →
      HeldStage k (stage_part t stage block s) s result g f x y
  children_read result two h =
      subst (λ b. HeldStage k (if b then children_script t block s else part_from t stage block s s) s result g f x y) (sym two)
      (stage_held (children_script t block) s as_read refl (children_frame s.bits s.raw s.minus as_read (λ F. refl) t block) h.now h.is result h.families
      h.read)

-- ---- what was found is put beside what was read before

or_assoc : (a b c : Bool) → ((a || b) || c) ≡ (a || (b || c))
or_assoc true b c = refl
or_assoc false b c = refl

module _ {I : Type 0} {k : SourceOf I} {script : Script State State} {plane r : ℕ} {found : Found} {old new : List ℤ} {block : List ℤ}
    (applies : Applies plane r found old new) {g : Gaggle} {s : State} (has : HasRead plane r old block s) {x y : Point I} where
  pub has_beside : {result : Result (Option ℕ) TextFault} → (h : HeldStage k script s result g found x y) → HasRead plane r new block h.now
  has_beside h = record {
    bits = λ p ac. applies.bits p ac.1 ∙ ap (λ b. b || bit found.bits p) (has.bits p ac) ∙ sym (h.bits p ac.1);
    minus = λ p ac. applies.minus p ac.1 ∙ ap (λ b. b || bit found.minus p) (has.minus p ac) ∙ or_assoc (negative (get_or block p (pos 0))) (s.minus p)
        (bit found.minus p) ∙ ap (λ b. negative (get_or block p (pos 0)) || b) (sym (h.minus p ac.1));
    raw = λ p lt. applies.raw p lt ∙ ap (λ b. b || bit found.raw p) (has.raw p lt) ∙ sym (h.raw p lt);
  }

  pub block_fault : (fault : TextFault) {mark : ℤ} → HeldStage k script s (Err fault) g found x y → TakesBlock k plane r block script (Err fault) g mark new x y
  block_fault fault h = record { now = h.now; options = h.options; has = has_beside h; families = tt; read = h.read }

  pub block_cut : {mark : ℤ} → HeldStage k script s (Ok None) g found x y → TakesBlock k plane r block script (Ok Ended) g mark new x y
  block_cut h = record { now = h.now; options = h.options; has = has_beside h; families = tt; read = h.read }

  pub block_whole : {m : ℕ} {mark : ℤ} → m ≡ families_in mark → HeldStage k script s (Ok (Some m)) g found x y →
      TakesBlock k plane r block script (Ok Whole) g mark new x y
  block_whole {m} e h = record {
    now = h.now;
    options = h.options;
    has = has_beside h;
    families = subst (λ n. Shows n h.now.families 0 3) e h.families;
    read =
        h.read;
  }
