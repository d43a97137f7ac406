-- The planes of a segment, from the top down. (docs/formats.md, "Stops, cut and fill"; this project's own.)
use Rattle.std.specs.Prelude.{◌≡◌, ◌<◌, ℕ, Bool, ◌+◌, ◌*◌, ◌^◌, ◌==◌, if◌then◌else◌, nat_lt, ℤ, pos, ◌+ℤ◌, List, [], ◌∷◌, length, Result, false}
use lib.ListN.{get_or}
use Rattle.plane_defs.specs.Marks.{depths_of}
use Rattle.block_masks.specs.Gaggles.{options_in, sent_in, families_in}
use Rattle.bit_pipe.specs.declared.fault.Part.{Part}
use Rattle.bit_pipe.specs.declared.fault.TextFault.{TextFault}
use Rattle.bit_pipe.specs.Sources.{SourceOf}
use Rattle.item_defs.specs.Scripts.{Script, done, around}
use Rattle.bit_pipe.specs.SourceState.{SourceState}
use Rattle.bit_pipe.specs.ScriptSources.{ReadsAs, by_part}
use Rattle.wave_defs.specs.Held.{blocks_in}
use Rattle.block_masks.specs.Slices.{dc_slot, minus_slot, mask_in, numbers_in}
use Rattle.plane_defs.specs.StageScripts.{bit_script}
use Rattle.plane_defs.specs.PlaneScript.{PlaneState, of_block, with_block, blocks_with}
use Rattle.plane_reader.specs.Above.{HasNoneBelow}
use Rattle.plane_reader.specs.Blocks.{raw_slot}
use Rattle.plane_reader.specs.Held.{Point, ReadsFrom}
use Rattle.plane_reader.specs.Gaggles.{dc_in, HavePlane, HaveDcs, HaveFamilies, HaveOptions}
use Rattle.plane_reader.specs.declared.planes.SentPlanes.{SentPlanes}

-- block r has this bit of the plane in its DC, if that had no bit of the plane or below it
pub record AddsDc (plane r : ℕ) (is_one : Bool) (old new : List ℤ) : Type 0 where
  pub long : length new ≡ length old
  pub dc : HasNoneBelow (plane + 1) (dc_in old r) → dc_in new r ≡ dc_in old r +ℤ pos (if is_one then 2 ^ plane else 0)
  pub slots : (slot : ℕ) → slot < 32 → (slot ≡ dc_slot → ⊥) → mask_in new r slot ≡ mask_in old r slot
  pub others : (q slot : ℕ) → 64 * q < length old → slot < 32 → (q ≡ r → ⊥) → mask_in new q slot ≡ mask_in old q slot

-- only DCs and masks of raw bits changed
pub record KeepOthers (old new : List ℤ) : Type 0 where
  pub long : length new ≡ length old
  pub slots : (r slot : ℕ) → 64 * r < length old → slot < 32 → (slot ≡ dc_slot → ⊥) → (slot ≡ raw_slot → ⊥) → mask_in new r slot ≡ mask_in old r slot

-- the plane's bit of block r's DC was given: the DC has it, and it is the block's only raw bit
pub record GivesDc (plane r : ℕ) (is_one : Bool) (old new : List ℤ) : Type 0 where
  pub keeps : KeepOthers old new
  pub dc : HasNoneBelow (plane + 1) (dc_in old r) → dc_in new r ≡ dc_in old r +ℤ pos (if is_one then 2 ^ plane else 0)
  pub other_dcs : (q : ℕ) → 64 * q < length old → (q ≡ r → ⊥) → dc_in new q ≡ dc_in old q
  pub given : mask_in new r raw_slot ≡ 1
  pub others : (q : ℕ) → 64 * q < length old → (q ≡ r → ⊥) → mask_in new q raw_slot ≡ mask_in old q raw_slot

-- the bit of a block's DC, if it is due
abbrev pub dc_item : (is_due : Bool) → ℕ → PlaneState → Script PlaneState PlaneState
dc_item is_due r p = around (with_block p r) (if is_due then bit_script 0 (of_block p r) else done (of_block p r))

-- the bits of DCs were read from a window that is held
pub record HeldDcs {I : Type 0} (k : SourceOf I) (plane : ℕ) (numbers : List (List ℤ)) (script : Script PlaneState PlaneState)
    (result : Result Part TextFault) (cells marks : List ℤ) (old new : Point I) : Type 0 where
  pub now : PlaneState
  pub has : HavePlane plane cells numbers now
  pub dcs : HaveDcs plane cells numbers now
  pub families : HaveFamilies marks now
  pub options : HaveOptions marks now
  pub read : ReadsFrom k script (by_part result now now) old new

-- the number of first stages that are sent of a plane
abbrev pub stages_of : SentPlanes → ℕ → ℕ
stages_of sent plane = if nat_lt sent.stop plane then 5 else if plane == sent.stop then sent.last + 1 else 0

-- the states keep the depths, and nothing of gaggles or families
pub record Clears (old new : List ℤ) : Type 0 where
  pub depths : depths_of new ≡ depths_of old
  pub options : (r : ℕ) → options_in (get_or new r (pos 0)) ≡ 0 ∷ 0 ∷ 0 ∷ []
  pub sent : (r : ℕ) → sent_in (get_or new r (pos 0)) ≡ false ∷ false ∷ false ∷ []
  pub families : (r : ℕ) → families_in (get_or new r (pos 0)) ≡ 0

-- no position has a raw bit, and all other masks stay
pub record ClearsRaw (old new : List ℤ) : Type 0 where
  pub long : length new ≡ length old
  pub none : (r : ℕ) → 64 * r < length old → mask_in new r raw_slot ≡ 0
  pub slots : (r slot : ℕ) → 64 * r < length old → slot < 32 → (slot ≡ raw_slot → ⊥) → mask_in new r slot ≡ mask_in old r slot

-- only masks of the plane, of signs and of raw bits changed, and DCs
pub record KeepPlanes (plane : ℕ) (old new : List ℤ) : Type 0 where
  pub long : length new ≡ length old
  pub slots : (r slot : ℕ) → 64 * r < length old → slot < 32 → (slot ≡ plane → ⊥) → (slot ≡ minus_slot → ⊥) → (slot ≡ dc_slot → ⊥) →
      (slot ≡ raw_slot → ⊥) → mask_in new r slot ≡ mask_in old r slot

-- stages of a plane were read, and the masks have what was read: exactly the bits that decide were taken
pub record TakesStages {I : Type 0} (k : SourceOf I) (plane : ℕ) (numbers : List (List ℤ)) (script : Script PlaneState PlaneState)
    (result : Result Part TextFault) (cells : List ℤ) (old new : SourceState I) : Type 0 where
  pub now : PlaneState
  pub has : HavePlane plane cells numbers now
  pub dcs : HaveDcs plane cells numbers now
  pub read : ReadsAs k script (by_part result now now) old new

-- and the masks represent the numbers with what was read
pub record TakesPlane {I : Type 0} (k : SourceOf I) (plane : ℕ) (numbers : List (List ℤ)) (script : Script PlaneState PlaneState)
    (result : Result Part TextFault) (cells : List ℤ) (old new : SourceState I) : Type 0 where
  pub stages : TakesStages k plane numbers script result cells old new
  pub numbers_now : blocks_with plane numbers stages.now ≡ blocks_in (numbers_in cells)
