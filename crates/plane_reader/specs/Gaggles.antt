-- What the masks of a segment have of a plane that is read, gaggle by gaggle. (This project's own.)
use Rattle.std.specs.Prelude.{◌≡◌, ◌<◌, ℕ, ◌*◌, ◌%◌, ◌^◌, ℤ, pos, ◌+ℤ◌, nat_lt, List, [], length, Result}
use Rattle.std.specs.Int.{w32, cast_signed}
use lib.ListN.{get_or}
use Rattle.plane_defs.specs.Marks.{depth_of}
use Rattle.block_masks.specs.declared.gaggle.Gaggle.{Gaggle}
use Rattle.block_masks.specs.Gaggles.{options_in, sent_in, families_in, options_at, sent_at}
use Rattle.block_masks.specs.Masks.{Shows}
use Rattle.block_masks.specs.Slices.{mask_in, above_slot, minus_slot, dc_slot}
use Rattle.bit_pipe.specs.declared.fault.Part.{Part}
use Rattle.bit_pipe.specs.declared.fault.TextFault.{TextFault}
use Rattle.bit_pipe.specs.Sources.{SourceOf}
use Rattle.bit_pipe.specs.SourceState.{SourceState}
use Rattle.item_defs.specs.Scripts.{Script, in_turn, around}
use Rattle.bit_pipe.specs.ScriptSources.{ReadsAs, by_part}
use Rattle.plane_defs.specs.StageScripts.{Terms, stage_script}
use Rattle.plane_defs.specs.PlaneScript.{PlaneState, of_block, with_block, bit_of_plane}
use Rattle.plane_reader.specs.declared.gaggles.Blocks.{Blocks}
use Rattle.plane_reader.specs.Takes.{AreIn}
use Rattle.plane_reader.specs.Held.{Point, ReadsFrom}
use Rattle.plane_reader.specs.Blocks.{raw_slot, IsAbove, HasRead, OnWhole}

-- the deep blocks are those of a depth above the plane
abbrev pub AreDeep : (plane : ℕ) → List ℕ → Blocks → Type 0
AreDeep plane depths blocks = Shows blocks.deep (λ r. nat_lt plane (get_or depths r 0)) blocks.first.block blocks.count

-- the masks say which AC numbers of these blocks are significant above the plane
abbrev pub AreAbove : (plane : ℕ) → (cells : List ℤ) → List (List ℤ) → Type 0
AreAbove plane cells numbers = (r : ℕ) → 64 * r < length cells → IsAbove (mask_in cells r above_slot) (get_or numbers r []) plane

-- the masks have what was read of all blocks in the plane, and the signs that they had before
abbrev pub HavePlane : (plane : ℕ) → (cells : List ℤ) → List (List ℤ) → PlaneState → Type 0
HavePlane plane cells numbers p = (r : ℕ) → 64 * r < length cells → HasRead plane r cells (get_or numbers r []) (p.blocks r)

-- the DC of block r
abbrev pub dc_in : (cells : List ℤ) → ℕ → ℤ
dc_in cells r = cast_signed w32 (mask_in cells r dc_slot % 2 ^ 32)

-- the DCs have the bits that were read of them in the plane
abbrev pub HaveDcs : (plane : ℕ) → (cells : List ℤ) → List (List ℤ) → PlaneState → Type 0
HaveDcs plane cells numbers p = (r : ℕ) → 64 * r < length cells → dc_in cells r ≡ get_or (get_or numbers r []) 0 (pos 0) +ℤ pos (bit_of_plane plane
    (p.blocks r) 0)

-- only masks of the plane, of signs and of raw bits changed
pub record KeepSlots (plane : ℕ) (old new : List ℤ) : Type 0 where
  pub long : length new ≡ length old
  pub slots : (r slot : ℕ) → 64 * r < length old → slot < 32 → (slot ≡ plane → ⊥) → (slot ≡ minus_slot → ⊥) → (slot ≡ raw_slot → ⊥) → mask_in
      new r slot ≡ mask_in old r slot

-- the states have the families of all blocks that are significant in the plane
abbrev pub HaveFamilies : (marks : List ℤ) → PlaneState → Type 0
HaveFamilies marks p = (r : ℕ) → r < length marks → Shows (families_in (get_or marks r (pos 0))) ((p.blocks r).families) 0 3

-- the states keep the depths of the blocks and the options of the gaggles
pub record KeepStates (old new : List ℤ) : Type 0 where
  pub long : length new ≡ length old
  pub depths : (r : ℕ) → depth_of (get_or new r (pos 0)) ≡ depth_of (get_or old r (pos 0))
  pub options : (r : ℕ) → options_in (get_or new r (pos 0)) ≡ options_in (get_or old r (pos 0))
  pub sent : (r : ℕ) → sent_in (get_or new r (pos 0)) ≡ sent_in (get_or old r (pos 0))

-- the options of gaggle g that its first block's state has
abbrev pub gaggle_at : (marks : List ℤ) → ℕ → Gaggle
gaggle_at marks g = record { options = options_at marks g; sent = sent_at marks g }

-- a stage of the block r
abbrev pub block_script : Terms → (stage : ℕ) → List ℕ → List (List ℤ) → ℕ → PlaneState → Script PlaneState PlaneState
block_script t stage depths numbers r p = around (with_block p r) (stage_script t stage (get_or depths r 0) (get_or numbers r []) (of_block p r))

-- a stage of this number of blocks
abbrev pub gaggle_script : Terms → (stage : ℕ) → List ℕ → List (List ℤ) → (first count : ℕ) → PlaneState → Script PlaneState PlaneState
gaggle_script t stage depths numbers = in_turn (block_script t stage depths numbers)

-- blocks of gaggle g were read, and the masks, the states and the gaggle have what was read; the other gaggles have the options that they had
pub record TakesBlocks {I : Type 0} (k : SourceOf I) (plane g : ℕ) (numbers : List (List ℤ)) (before : PlaneState) (script : Script PlaneState PlaneState)
    (result : Result Part TextFault) (gaggle : Gaggle) (cells marks : List ℤ) (old new : Point I) : Type 0 where
  pub now : PlaneState
  pub options : AreIn gaggle (now.options g)
  pub others : (h : ℕ) → (h ≡ g → ⊥) → now.options h ≡ before.options h
  pub has : HavePlane plane cells numbers now
  pub families : OnWhole result (HaveFamilies marks now)
  pub read : ReadsFrom k script (by_part result now now) old new

-- the same once the window is let go: exactly the bits that decide were taken
pub record TakesGaggle {I : Type 0} (k : SourceOf I) (plane g : ℕ) (numbers : List (List ℤ)) (before : PlaneState) (script : Script PlaneState PlaneState)
    (result : Result Part TextFault) (cells marks : List ℤ) (old new : SourceState I) : Type 0 where
  pub now : PlaneState
  pub options : OnWhole result (AreIn (gaggle_at marks g) (now.options g))
  pub others : (h : ℕ) → (h ≡ g → ⊥) → now.options h ≡ before.options h
  pub has : HavePlane plane cells numbers now
  pub families : OnWhole result (HaveFamilies marks now)
  pub read : ReadsAs k script (by_part result now now) old new

-- the states have the options of all gaggles
abbrev pub HaveOptions : (marks : List ℤ) → PlaneState → Type 0
HaveOptions marks p = (g : ℕ) → 16 * g < length marks → AreIn (gaggle_at marks g) (p.options g)

-- the masks and the states have what was read of all blocks in the plane
pub record HaveRead (plane : ℕ) (cells marks : List ℤ) (numbers : List (List ℤ)) (p : PlaneState) : Type 0 where
  pub has : HavePlane plane cells numbers p
  pub dcs : HaveDcs plane cells numbers p
  pub families : HaveFamilies marks p
  pub options : HaveOptions marks p

-- a stage of all blocks was read, and the masks and the states have what was read: exactly the bits that decide were taken
pub record TakesStage {I : Type 0} (k : SourceOf I) (plane : ℕ) (numbers : List (List ℤ)) (script : Script PlaneState PlaneState)
    (result : Result Part TextFault) (cells marks : List ℤ) (old new : SourceState I) : Type 0 where
  pub now : PlaneState
  pub has : HavePlane plane cells numbers now
  pub dcs : HaveDcs plane cells numbers now
  pub families : OnWhole result (HaveFamilies marks now)
  pub options : OnWhole result (HaveOptions marks now)
  pub read : ReadsAs k script (by_part result now now) old new
