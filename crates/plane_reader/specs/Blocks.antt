-- What the masks of a block have of a plane that is read. (This project's own.)
use Rattle.std.specs.Prelude.{◌≡◌, ◌<◌, ℕ, ◌+◌, ◌*◌, ◌==◌, ℤ, pos, ◌||◌, if◌then◌else◌, List, length, Option, Result, Ok}
use lib.ListN.{get_or}
use Rattle.item_defs.specs.Bits.{bit}
use Rattle.base_122.specs.declared.book.Book.{Book}
use Rattle.plane_defs.specs.Sets.{significant}
use Rattle.plane_defs.specs.Entries.{negative}
use Rattle.plane_defs.specs.StepLaws.{IsAc}
use Rattle.block_masks.specs.declared.gaggle.Gaggle.{Gaggle}
use Rattle.block_masks.specs.declared.plan.CodedPlane.{CodedPlane}
use Rattle.block_masks.specs.Gaggles.{families_in}
use Rattle.block_masks.specs.Masks.{Shows}
use Rattle.block_masks.specs.Slices.{mask_in, minus_slot}
use Rattle.bit_pipe.specs.declared.fault.Part.{Part}
use Rattle.bit_pipe.specs.declared.fault.Part.TheVariants.{Whole}
use Rattle.bit_pipe.specs.declared.fault.TextFault.{TextFault}
use Rattle.bit_pipe.specs.Sources.{SourceOf}
use Rattle.item_defs.specs.Scripts.{Script}
use Rattle.bit_pipe.specs.ScriptSources.{by_part, by_done}
use Rattle.plane_defs.specs.States.{State}
use Rattle.plane_defs.specs.StageScripts.{Terms, parents_script, children_script, refinement_script}
use Rattle.plane_reader.specs.declared.found.Found.{Found}
use Rattle.plane_reader.specs.Takes.{AreIn, OnSome}
use Rattle.plane_reader.specs.Grandchildren.{grandchildren_from}
use Rattle.plane_reader.specs.Held.{Point, ReadsFrom}

abbrev pub terms_of : CodedPlane → Book → Terms
terms_of plan book = record { book = book; weights = plan.weights.shifts; plane = plan.plane; q = plan.q }

-- a mask has the AC numbers of a block that are significant above a plane
abbrev pub IsAbove : ℕ → List ℤ → ℕ → Type 0
IsAbove mask block plane = (p : ℕ) → IsAc p → bit mask p ≡ significant block (plane + 1) p

-- the slot of the masks that say which positions have their bit of the plane that is read as a raw bit
abbrev pub raw_slot : ℕ
raw_slot = 27

-- block r has these raw bits too, and all other masks stay
pub record AddsRaw (r raw : ℕ) (old new : List ℤ) : Type 0 where
  pub long : length new ≡ length old
  pub bits : (p : ℕ) → p < 64 → bit (mask_in new r raw_slot) p ≡ (bit (mask_in old r raw_slot) p || bit raw p)
  pub slots : (slot : ℕ) → slot < 32 → (slot ≡ raw_slot → ⊥) → mask_in new r slot ≡ mask_in old r slot
  pub others : (q slot : ℕ) → 64 * q < length old → slot < 32 → (q ≡ r → ⊥) → mask_in new q slot ≡ mask_in old q slot

-- of block r only the masks of the plane, of signs and of raw bits changed
pub record KeepsMasks (r plane : ℕ) (old new : List ℤ) : Type 0 where
  pub long : length new ≡ length old
  pub slots : (slot : ℕ) → slot < 32 → (slot ≡ plane → ⊥) → (slot ≡ minus_slot → ⊥) → (slot ≡ raw_slot → ⊥) → mask_in new r slot ≡ mask_in old r slot
  pub others : (q slot : ℕ) → 64 * q < length old → slot < 32 → (q ≡ r → ⊥) → mask_in new q slot ≡ mask_in old q slot

-- the bits, raw bits and signs that were found are added
pub record Applies (plane r : ℕ) (found : Found) (old new : List ℤ) : Type 0 where
  pub keeps : KeepsMasks r plane old new
  pub bits : (p : ℕ) → p < 64 → bit (mask_in new r plane) p ≡ (bit (mask_in old r plane) p || bit found.bits p)
  pub minus : (p : ℕ) → p < 64 → bit (mask_in new r minus_slot) p ≡ (bit (mask_in old r minus_slot) p || bit found.minus p)
  pub raw : (p : ℕ) → p < 64 → bit (mask_in new r raw_slot) p ≡ (bit (mask_in old r raw_slot) p || bit found.raw p)

-- the masks of block r have what was read of it in the plane, and the signs that it had before
pub record HasRead (plane r : ℕ) (cells : List ℤ) (block : List ℤ) (s : State) : Type 0 where
  pub bits : (p : ℕ) → IsAc p → bit (mask_in cells r plane) p ≡ s.bits p
  pub minus : (p : ℕ) → IsAc p → bit (mask_in cells r minus_slot) p ≡ (negative (get_or block p (pos 0)) || s.minus p)
  pub raw : (p : ℕ) → p < 64 → bit (mask_in cells r raw_slot) p ≡ s.raw p

-- this holds if all was read
abbrev pub OnWhole : Result Part TextFault → Type 0 → Type 0
OnWhole (Ok Whole) Holds = Holds
OnWhole other Holds = Unit {0}

-- what a block that is deep enough sends in stage 1, 3 or 4, beside the state before the stage
abbrev pub part_from : Terms → (stage : ℕ) → List ℤ → (earlier : State) → State → Script State State
part_from t stage block earlier s =
    if stage == 1 then parents_script t block s else
    if stage == 3 then grandchildren_from t block earlier s else refinement_script t block s

-- the same in stage 1, 2, 3 or 4
abbrev pub stage_part : Terms → (stage : ℕ) → List ℤ → State → Script State State
stage_part t stage block s = if stage == 2 then children_script t block s else part_from t stage block s s

-- a stage was read of a block whose state before it is s: the masks that were found have the bits, raw bits and signs of the stage alone, and another
-- has the families that are significant then
pub record HeldStage {I : Type 0} (k : SourceOf I) (script : Script State State) (s : State) (result : Result (Option ℕ) TextFault) (g : Gaggle) (f : Found)
    (old new : Point I) : Type 0 where
  pub now : State
  pub options : AreIn g now.options
  pub bits : (p : ℕ) → p < 64 → now.bits p ≡ (s.bits p || bit f.bits p)
  pub minus : (p : ℕ) → p < 64 → now.minus p ≡ (s.minus p || bit f.minus p)
  pub raw : (p : ℕ) → p < 64 → now.raw p ≡ (s.raw p || bit f.raw p)
  pub families : OnSome result (λ m. Shows m now.families 0 3)
  pub read : ReadsFrom k script (by_done result now now) old new

-- a stage of block r was read, and its masks, its state and the gaggle have what was read
pub record TakesBlock {I : Type 0} (k : SourceOf I) (plane r : ℕ) (block : List ℤ) (script : Script State State) (result : Result Part TextFault)
    (g : Gaggle) (mark : ℤ) (cells : List ℤ) (old new : Point I) : Type 0 where
  pub now : State
  pub options : AreIn g now.options
  pub has : HasRead plane r cells block now
  pub families : OnWhole result (Shows (families_in mark) now.families 0 3)
  pub read : ReadsFrom k script (by_part result now now) old new
