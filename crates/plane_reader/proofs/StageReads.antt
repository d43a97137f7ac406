-- The stages of a plane, gaggle by gaggle.
use Rattle.std.proofs.Common.{◌≡◌, ℕ, suc, ◌+◌, ◌-◌, ◌*◌, ◌/◌, ◌<◌, ◌≤◌, min, if◌then◌else◌, List, [], length, refl, ap, sym, ◌∙◌, subst, arith, ℤ, pos}
use Rattle.std.proofs.Common.{◌+ℤ◌, ◌%◌, ◌^◌, inl, inr, Result, Ok, Err, get_or, w32}
use Rattle.std.specs.Int.{cast_signed}
use Rattle.std.proofs.lemmas.Bool.{cases_eq, cases_lt}
use Rattle.block_masks.specs.Gaggles.{AreOptions, AreKnown, options_at, sent_at}
use Rattle.block_masks.specs.Slices.{dc_slot}
use Rattle.bit_pipe.specs.declared.fault.Part.{Part}
use Rattle.bit_pipe.specs.declared.fault.Part.TheVariants.{Whole, Ended}
use Rattle.bit_pipe.specs.declared.fault.TextFault.{TextFault}
use Rattle.bit_pipe.specs.Sources.{SourceOf}
use Rattle.bit_pipe.specs.SourceState.{SourceState, IsIn}
use Rattle.item_defs.specs.Scripts.{Script, then_ask, in_turn}
use Rattle.bit_pipe.specs.ScriptSources.{got, ends, by_fault, by_part, ReadsAs}
use Rattle.item_defs.proofs.ScriptLaws.{turns_split}
use Rattle.bit_pipe.proofs.ScriptReading.{Leaves, leaves_all, leaves_more, read_done, read_cut, read_fault}
use Rattle.plane_defs.specs.States.{State}
use Rattle.plane_defs.specs.StageScripts.{Terms}
use Rattle.plane_defs.specs.PlaneScript.{PlaneState, blocks_script, plane_script, nothing_yet}
use Rattle.plane_reader.specs.Takes.{AreIn}
use Rattle.plane_reader.specs.Gaggles.{HavePlane, HaveDcs, HaveFamilies, HaveOptions, HaveRead, KeepSlots, gaggle_at, block_script, gaggle_script}
use Rattle.plane_reader.specs.Gaggles.{TakesGaggle, TakesStage}
use Rattle.plane_reader.specs.Planes.{TakesStages}
use Rattle.plane_reader.proofs.GaggleEnds.{same_options}
use Rattle.plane_reader.proofs.ScriptKeeps.{said_kept}
use Rattle.plane_reader.proofs.StageKeeps.{All, dc_stable, later_keeps}

-- the gaggles before the one that begins with block j were read, and m more blocks are left
pub record GagglesLeft {I : Type 0} (k : SourceOf I) (plane j m : ℕ) (numbers : List (List ℤ)) (all : Script PlaneState PlaneState) (item : ℕ → PlaneState →
    Script PlaneState PlaneState)
    (cells marks : List ℤ) (old now : SourceState I) : Type 0 where
  pub state : PlaneState
  pub has : HavePlane plane cells numbers state
  pub families : HaveFamilies marks state
  pub options : HaveOptions marks state
  pub left : Leaves k all (in_turn item j m state) old now

-- the states keep the options of all other gaggles
abbrev pub OthersStay : ℕ → (old new : List ℤ) → Type 0
OthersStay g old new = (h : ℕ) → (h ≡ g → ⊥) → (options_at new h ≡ options_at old h) × (sent_at new h ≡ sent_at old h)

-- the options of all gaggles, if those of one were read on
pub options_after : (old new : List ℤ) {g : ℕ} (before now : PlaneState) → length new ≡ length old → AreIn (gaggle_at new g) (now.options g) → ((h : ℕ) →
    (h ≡ g → ⊥) → now.options h ≡ before.options h) →
    OthersStay g old new → HaveOptions old before → HaveOptions new now
options_after old new {g} before now long here states others have h lt = elim (cases_eq h g) [
  | inl e ↦ subst (λ n. AreIn (gaggle_at new n) (now.options n)) (sym e) here
  | inr apart ↦
      let same = others h apart in
      subst (AreIn (gaggle_at new h)) (sym (states h apart)) (same_options (gaggle_at old h) same.0 same.1 (have h (subst (λ n. 16 * h < n) long lt)))
]

pub known_after : {old new : List ℤ} {g : ℕ} → length new ≡ length old → AreOptions (options_at new g) → OthersStay g old new → AreKnown old → AreKnown new
known_after {old} {new} {g} long here others known = record {
  at = λ h lt. elim (cases_eq h g) [
    | inl e ↦ subst (λ n. AreOptions (options_at new n)) (sym e) here
    | inr apart ↦ subst AreOptions (sym (others h apart).0) (known.at h (subst (λ n. 16 * h < n) long lt))
  ];
}

-- the stages after the first change no DC
pub dcs_kept : {I : Type 0} {k : SourceOf I} (t : Terms) (depths : List ℕ) (numbers : List (List ℤ)) (stage plane : ℕ) → 1 ≤ stage → plane < 27 →
    (p now : PlaneState) (result : Result Part TextFault) {old new : List ℤ} {x y : SourceState I} →
    KeepSlots plane old new → ReadsAs k (blocks_script t depths numbers stage p) (by_part result now now) x y → HaveDcs plane old numbers p →
    HaveDcs plane new numbers now
dcs_kept t depths numbers stage plane some low p now result {old} {new} keeps read have r inside =
    let P : ℕ → State → Type 0 = λ i s. s.bits 0 ≡ (p.blocks i).bits 0 in
    let kept = said_kept (All P) (blocks_script t depths numbers stage p) (later_keeps P (λ i. dc_stable ((p.blocks i).bits 0)) t depths numbers stage some p
    (λ i. refl)) read.bits now result read.says r in
    let there : 64 * r < length old = subst (λ n. 64 * r < n) keeps.long inside in
    ap (λ m. cast_signed w32 (m % 2 ^ 32)) (keeps.slots r dc_slot there (omega arith) (λ e. omega (arith, e, low)) (λ e. omega (arith, e)) (λ e. omega (
      arith,
      e,
    ))) ∙ have r there ∙
    sym (ap (λ y. get_or (get_or numbers r []) 0 (pos 0) +ℤ pos (if y then 2 ^ plane else 0)) kept)

module _ {I : Type 0} {k : SourceOf I} (t : Terms) (stage : ℕ) (depths : List ℕ) (numbers : List (List ℤ)) (plane : ℕ) where
  pub gaggles_start : {cells marks : List ℤ} (x : SourceState I) (p : PlaneState) (j m : ℕ) → j ≡ 0 → m ≡ length depths → HaveRead plane cells marks numbers p →
      GagglesLeft k plane j m numbers (blocks_script t depths numbers stage p) (block_script t stage depths numbers) cells marks x x
  gaggles_start x p j m first count have =
      let all = blocks_script t depths numbers stage p in
      record {
        state = p;
        has = have.has;
        families = have.families;
        options = have.options;
        left = subst (λ a. Leaves k all (in_turn (block_script t stage depths numbers) a m p) x x) (sym first) (subst (λ n. Leaves k all (in_turn
            (block_script t stage depths numbers) 0 n p) x x) (sym count) (leaves_all all x));
      }

  -- the first block is that of gaggle g
  pub at_gaggle : (b g c : ℕ) → b ≡ 16 * g → {s : PlaneState} (result : Result Part TextFault) {cells marks : List ℤ} {x y : SourceState I} →
      TakesGaggle k plane (b / 16) numbers s (gaggle_script t stage depths numbers b c s) result cells marks x y →
      TakesGaggle k plane g numbers s (gaggle_script t stage depths numbers (16 * g) c s) result cells marks x y
  at_gaggle b g c e {s} result {cells} {marks} {x} {y} read =
      let same : b / 16 ≡ g = omega (arith, e) in
      subst (λ h. TakesGaggle k plane h numbers s (gaggle_script t stage depths numbers (16 * g) c s) result cells marks x y) same (subst
      (λ a. TakesGaggle k plane (b / 16) numbers s (gaggle_script t stage depths numbers a c s) result cells marks x y) e read)

  module _ {all : Script PlaneState PlaneState} (g count : ℕ) {cells marks : List ℤ} {x y : SourceState I} (lt : 16 * g < count)
      (l : GagglesLeft k plane (16 * g)
      (count - 16 * g) numbers all (block_script t stage depths numbers) cells marks x y)
      {c : ℕ} (width : c ≡ min (count - 16 * g) 16) where
    part : Script PlaneState PlaneState
    part = gaggle_script t stage depths numbers (16 * g) c l.state

    rest : PlaneState → Script PlaneState PlaneState
    rest = in_turn (block_script t stage depths numbers) (16 * g + c) (count - 16 * g - c)

    parts : in_turn (block_script t stage depths numbers) (16 * g) (count - 16 * g) l.state ≡ then_ask part rest
    unfolding part rest
    parts =
        let sum : count - 16 * g ≡ c + (count - 16 * g - c) = omega (arith, width) in
        ap (λ n. in_turn (block_script t stage depths numbers) (16 * g) n l.state) sum ∙ turns_split PlaneState (block_script t stage depths numbers)
        (16 * g) c (count - 16 * g - c) l.state

    left_is : Leaves k all (then_ask part rest) x y
    left_is = subst (λ r. Leaves k all r x y) parts l.left

    rest_is : (s : PlaneState) → rest s ≡ in_turn (block_script t stage depths numbers) (16 * (g + 1)) (count - 16 * (g + 1)) s
    unfolding rest
    rest_is s = elim (cases_lt (count - 16 * g) 16) [
      | inl few ↦
          let a : count - 16 * g - c ≡ 0 = omega (arith, width, few) in
          let b : count - 16 * (g + 1) ≡ 0 = omega (arith, few) in
          ap (λ n. in_turn (block_script t stage depths numbers) (16 * g + c) n s) a ∙ sym (ap (λ n. in_turn (block_script t stage depths numbers) (16 *
          (g + 1)) n s) b)
      | inr whole ↦
          let a : count - 16 * g - c ≡ count - 16 * (g + 1) = omega (arith, width, whole) in
          let b : 16 * g + c ≡ 16 * (g + 1) = omega (arith, width, whole) in
          ap (λ n. in_turn (block_script t stage depths numbers) (16 * g + c) n s) a ∙ ap (λ n. in_turn (block_script t stage depths numbers) n (count - 16 *
          (g + 1)) s) b
    ]

    pub gaggles_more : {cells' marks' : List ℤ} {z : SourceState I} → length marks' ≡ length marks → OthersStay g marks marks' →
        TakesGaggle k plane g numbers l.state (gaggle_script t stage depths numbers (16 * g) c l.state) (Ok Whole) cells' marks' y z →
        GagglesLeft k plane (16 * (g + 1)) (count - 16 * (g + 1)) numbers all (block_script t stage depths numbers) cells' marks' x z
    unfolding part
    gaggles_more {marks' = marks'} {z} long others read = record {
      state = read.now;
      has = read.has;
      families = read.families;
      options = options_after marks marks' l.state read.now long read.options read.others others l.options;
      left = subst (λ r. Leaves k all r x z) (rest_is read.now) (leaves_more all part rest read.now left_is read.read);
    }

    pub gaggles_cut : {cells' marks' : List ℤ} {z : SourceState I} → (read : TakesGaggle k plane g numbers l.state (gaggle_script t stage depths numbers
        (16 * g) c l.state) (Ok Ended) cells' marks' y z) → ReadsAs k all (ends read.now) x z
    unfolding part
    gaggles_cut {z = z} read = left_is.then (ends read.now) z (read_cut part rest read.now read.read)

    pub gaggles_fault : {cells' marks' : List ℤ} {z : SourceState I} → (fault : TextFault) → (read : TakesGaggle k plane g numbers l.state
        (gaggle_script t stage depths numbers (16 * g) c l.state) (Err fault) cells' marks' y z) → ReadsAs k all (by_fault fault read.now) x z
    unfolding part
    gaggles_fault {z = z} fault read = left_is.then (by_fault fault read.now) z (read_fault part rest read.now fault read.read)

  module _ (some : 1 ≤ stage) (low : plane < 27) (p : PlaneState) {old cells marks : List ℤ} (keeps : KeepSlots plane old cells)
      (dcs : HaveDcs plane old numbers p) {x z : SourceState I} where
    pub stage_cut : {g : ℕ} {before : PlaneState} {script : Script PlaneState PlaneState} {marks' : List ℤ} {y : SourceState I} →
        (read : TakesGaggle k plane g numbers before script (Ok Ended) cells marks' y z) →
        ReadsAs k (blocks_script t depths numbers stage p) (ends read.now) x z → TakesStage k plane numbers (blocks_script t depths numbers stage p)
        (Ok Ended) cells marks x z
    stage_cut read r = record {
      now = read.now;
      has = read.has;
      dcs = dcs_kept t depths numbers stage plane some low p read.now (Ok Ended) keeps r dcs;
      families = tt;
      options = tt;
      read = r;
    }

    pub stage_fault : {g : ℕ} {before : PlaneState} {script : Script PlaneState PlaneState} {marks' : List ℤ} {y : SourceState I} (fault : TextFault) →
        (read : TakesGaggle k plane g numbers before script (Err fault) cells marks' y z) →
        ReadsAs k (blocks_script t depths numbers stage p) (by_fault fault read.now) x z → TakesStage k plane numbers (blocks_script t depths numbers stage p)
        (Err fault) cells marks x z
    stage_fault fault read r = record {
      now = read.now;
      has = read.has;
      dcs = dcs_kept t depths numbers stage plane some low p read.now
          (Err fault) keeps r dcs;
      families = tt;
      options = tt;
      read = r;
    }

    pub stage_done : {j m : ℕ} → m ≡ 0 → IsIn z → GagglesLeft k plane j m numbers (blocks_script t depths numbers stage p)
        (block_script t stage depths numbers) cells marks x z →
        TakesStage k plane numbers (blocks_script t depths numbers stage p) (Ok Whole) cells marks x z
    stage_done {j} none i l =
        let all = blocks_script t depths numbers stage p in
        let left : Leaves k all (in_turn (block_script t stage depths numbers) j 0 l.state) x z = subst (λ n. Leaves k all (in_turn
        (block_script t stage depths numbers) j n l.state) x z) none l.left in
        let r : ReadsAs k all (got l.state) x z = left.then (got l.state) z (read_done l.state z i) in
        record {
          now = l.state;
          has = l.has;
          dcs = dcs_kept t depths numbers stage plane some low p l.state (Ok Whole) keeps r dcs;
          families = l.families;
          options = l.options;
          read = r;
        }

-- ---- the stages of a plane

-- the stages before one were read, and m more are left
pub record StagesLeft {I : Type 0} (k : SourceOf I) (t : Terms) (plane number m : ℕ) (depths : List ℕ) (numbers : List (List ℤ))
    (all : Script PlaneState PlaneState) (cells marks : List ℤ) (old now : SourceState I) : Type 0 where
  pub state : PlaneState
  pub have : HaveRead plane cells marks numbers state
  pub left : Leaves k all (in_turn (blocks_script t depths numbers) number m state) old now

module _ {I : Type 0} {k : SourceOf I} (t : Terms) {plane : ℕ} (depths : List ℕ) {numbers : List (List ℤ)} where
  pub stages_start : {n m : ℕ} → n ≡ suc m → {cells marks : List ℤ} {x y : SourceState I} → TakesStage k plane numbers
      (blocks_script t depths numbers 0 nothing_yet) (Ok Whole) cells marks x y →
      StagesLeft k t plane 1 m depths numbers (plane_script t depths numbers n) cells marks x y
  stages_start {n} {m} more {x = x} {y} s =
      let all = plane_script t depths numbers n in
      let whole : Leaves k all (in_turn (blocks_script t depths numbers) 0 (suc m) nothing_yet) x x = subst (λ c. Leaves k all (in_turn
      (blocks_script t depths numbers) 0 c nothing_yet) x x) more (leaves_all all x) in
      record {
        state = s.now;
        have = record { has = s.has; dcs = s.dcs; families = s.families; options = s.options };
        left = leaves_more all (blocks_script t depths numbers 0 nothing_yet) (in_turn (blocks_script t depths numbers) 1 m) s.now whole s.read;
      }

  -- the first stage ends the plane
  pub first_cut : {n m : ℕ} → n ≡ suc m → {cells marks : List ℤ} {x y : SourceState I} →
      TakesStage k plane numbers (blocks_script t depths numbers 0 nothing_yet)
      (Ok Ended) cells marks x y →
      TakesStages k plane numbers (plane_script t depths numbers n) (Ok Ended) cells x y
  first_cut {n} {m} more {x = x} {y} s = record {
    now = s.now;
    has = s.has;
    dcs = s.dcs;
    read = subst (λ c. ReadsAs k (plane_script t depths numbers c) (ends s.now) x y) (sym more) (read_cut (blocks_script t depths numbers 0 nothing_yet)
        (in_turn (blocks_script t depths numbers) 1 m) s.now s.read);
  }

  pub first_fault : {n m : ℕ} → n ≡ suc m → (fault : TextFault) {cells marks : List ℤ} {x y : SourceState I} →
      TakesStage k plane numbers (blocks_script t depths numbers 0 nothing_yet) (Err fault) cells marks x y →
      TakesStages k plane numbers (plane_script t depths numbers n) (Err fault) cells x y
  first_fault {n} {m} more fault {x = x} {y} s = record {
    now = s.now;
    has = s.has;
    dcs = s.dcs;
    read = subst (λ c. ReadsAs k (plane_script t depths numbers c) (by_fault fault s.now) x y) (sym more) (read_fault
        (blocks_script t depths numbers 0 nothing_yet) (in_turn (blocks_script t depths numbers) 1 m) s.now fault s.read);
  }

  module _ {number n m : ℕ} {all : Script PlaneState PlaneState} {cells marks : List ℤ} {x y : SourceState I} (more : n ≡ suc m)
      (l : StagesLeft k t plane number n depths numbers all cells marks x y) where
    stage_left : Leaves k all (then_ask (blocks_script t depths numbers number l.state) (in_turn (blocks_script t depths numbers) (suc number) m)) x y
    stage_left = subst (λ c. Leaves k all (in_turn (blocks_script t depths numbers) number c l.state) x y) more l.left

    pub stages_more : {cells' marks' : List ℤ} {z : SourceState I} → TakesStage k plane numbers (blocks_script t depths numbers number l.state)
        (Ok Whole) cells' marks' y z → StagesLeft k t plane (number + 1) m depths numbers all cells' marks' x z
    stages_more {z = z} s =
        let next : suc number ≡ number + 1 = omega arith in
        record {
          state = s.now;
          have = record { has = s.has; dcs = s.dcs; families = s.families; options = s.options };
          left = subst (λ a. Leaves k all (in_turn (blocks_script t depths numbers) a m s.now) x z) next (leaves_more all
              (blocks_script t depths numbers number l.state) (in_turn (blocks_script t depths numbers) (suc number) m) s.now stage_left s.read);
        }

    pub stages_cut : {cells' marks' : List ℤ} {z : SourceState I} → TakesStage k plane numbers (blocks_script t depths numbers number l.state)
        (Ok Ended) cells' marks' y z → TakesStages k plane numbers all (Ok Ended) cells' x z
    stages_cut {z = z} s = record {
      now = s.now;
      has = s.has;
      dcs = s.dcs;
      read = stage_left.then (ends s.now) z (read_cut
          (blocks_script t depths numbers number l.state) (in_turn (blocks_script t depths numbers) (suc number) m) s.now s.read);
    }

    pub stages_fault : (fault : TextFault) {cells' marks' : List ℤ} {z : SourceState I} → TakesStage k plane numbers
        (blocks_script t depths numbers number l.state) (Err fault) cells' marks' y z → TakesStages k plane numbers all (Err fault) cells' x z
    stages_fault fault {z = z} s = record {
      now = s.now;
      has = s.has;
      dcs = s.dcs;
      read = stage_left.then (by_fault fault s.now) z (read_fault
          (blocks_script t depths numbers number l.state) (in_turn (blocks_script t depths numbers) (suc number) m) s.now fault s.read);
    }

  pub stages_done : {number m : ℕ} {all : Script PlaneState PlaneState} {cells marks : List ℤ} {x y : SourceState I} → m ≡ 0 → IsIn y →
      StagesLeft k t plane number m depths numbers all cells marks x y → TakesStages k plane numbers all (Ok Whole) cells x y
  stages_done {number} {all = all} {x = x} {y} none i l =
      let left : Leaves k all (in_turn (blocks_script t depths numbers) number 0 l.state) x y = subst (λ c. Leaves k all (in_turn
      (blocks_script t depths numbers) number c l.state) x y) none l.left in
      record { now = l.state; has = l.have.has; dcs = l.have.dcs; read = left.then (got l.state) y (read_done l.state y i) }
