-- The lows of numbers whose planes are read, and the masks of restored numbers. (docs/formats.md, "Restored numbers"; this project's own.)
use Rattle.std.specs.Prelude.{◌≡◌, ◌≤◌, ◌<◌, ℕ, ◌+◌, ◌-◌, ◌*◌, ◌^◌, ◌&&◌, ◌||◌, nat_le, nat_lt, min, max, Bool, false, if◌then◌else◌, List, length}
use Rattle.std.specs.Prelude.{Option, Some, None, Result, ℤ}
use Rattle.item_defs.specs.Bits.{bit}
use Rattle.item_defs.specs.Scripts.{Script}
use Rattle.wave_defs.specs.Held.{blocks_in}
use Rattle.plane_defs.specs.Sets.{shift, coded}
use Rattle.plane_defs.specs.StepLaws.{IsAc}
use Rattle.plane_defs.specs.Lows.{Given}
use Rattle.base_122.specs.Restored.{restored_dc}
use Rattle.plane_defs.specs.Restored.{restored_ac}
use Rattle.block_masks.specs.Slices.{mask_in, above_slot, dc_slot, number_in, numbers_in}
use Rattle.block_masks.specs.MaskedNumbers.{size_in}
use Rattle.bit_pipe.specs.declared.fault.Part.{Part}
use Rattle.bit_pipe.specs.declared.fault.TextFault.{TextFault}
use Rattle.bit_pipe.specs.Sources.{SourceOf}
use Rattle.bit_pipe.specs.SourceState.{SourceState}
use Rattle.bit_pipe.specs.ScriptSources.{ReadsAs, by_part}
use Rattle.plane_reader.specs.declared.planes.SentPlanes.{SentPlanes}
use Rattle.plane_reader.specs.Above.{HasNoneBelow}
use Rattle.plane_reader.specs.Blocks.{raw_slot}
use Rattle.plane_reader.specs.Gaggles.{dc_in}

-- ---- before the planes

-- the low of a DC whose bits are given down to plane `below`, except q low bits: no bit below its shift is sent
abbrev pub dc_low : (weights : List ℕ) → (q below : ℕ) → ℕ
dc_low weights q below = max (shift weights 0) (min q below)

-- of the DC numbers the bits are given that the DC part has, and nothing is given of the AC numbers
pub record AwaitLows (sent : SentPlanes) (g : Given) : Type 0 where
  pub dcs : (r : ℕ) → r < length g.numbers → g.lows r 0 ≡ Some (dc_low sent.weights.shifts sent.q sent.below)
  pub acs : (r p : ℕ) → r < length g.numbers → IsAc p → g.lows r p ≡ None

-- ---- after a plane, of which all stages or some were read, and after all stages of the planes above it

-- the bits of the DC of block r are given down to this plane, or to its shift
abbrev pub dc_reach : (q plane : ℕ) → (cells : List ℤ) → (r : ℕ) → ℕ
dc_reach q plane cells r = if bit (mask_in cells r raw_slot) 0 then plane else min q (plane + 1)

-- the low of an AC number of block r that is not 0: the plane if it gave a bit of the number, or the plane above it, or the shift
abbrev pub ac_reach : (weights : List ℕ) → (plane : ℕ) → (cells : List ℤ) → (r p : ℕ) → ℕ
ac_reach weights plane cells r p =
    if bit (mask_in cells r plane) p || bit (mask_in cells r raw_slot) p then plane else max (shift weights p) (plane + 1)

-- the masks have the numbers, and show their lows
pub record HaveLows (weights : List ℕ) (q plane : ℕ) (cells : List ℤ) (g : Given) : Type 0 where
  pub numbers : g.numbers ≡ blocks_in (numbers_in cells)
  pub dcs : (r : ℕ) → 64 * r < length cells → g.lows r 0 ≡ Some (max (shift weights 0) (dc_reach q plane cells r))
  pub acs : (r p : ℕ) → 64 * r < length cells → IsAc p → 0 < size_in (mask_in cells r) p → g.lows r p ≡ Some (ac_reach weights plane cells r p)

-- in block r the masks of what is significant say which AC numbers are not 0; no AC number has a bit below the plane, and the DC has none
-- below those that are given
pub record IsReached (q plane r : ℕ) (cells : List ℤ) : Type 0 where
  pub above : (p : ℕ) → IsAc p → bit (mask_in cells r above_slot) p ≡ nat_lt 0 (size_in (mask_in cells r) p)
  pub empty : (slot p : ℕ) → slot < plane → IsAc p → bit (mask_in cells r slot) p ≡ false
  pub dc : HasNoneBelow (dc_reach q plane cells r) (dc_in cells r)

-- planes were read, down to one of which all stages or some were read, and the masks have what was read: exactly the bits that decide were taken
pub record TakesPlanes {I : Type 0} (k : SourceOf I) (weights : List ℕ) (q plane : ℕ) (script : Script Given Given) (result : Result Part TextFault)
    (cells : List ℤ) (old new : SourceState I) : Type 0 where
  pub now : Given
  pub lows : HaveLows weights q plane cells now
  pub read : ReadsAs k script (by_part result now now) old new

-- ---- restored numbers

-- the plane of the bit that is half of the interval of a DC whose bits are given down to `low`, if the DC can have a bit below it
abbrev pub half_plane : (weights : List ℕ) → (low : ℕ) → Option ℕ
half_plane weights low = if nat_lt (shift weights 0) low then Some (low - 1) else None

-- the positions at which a number can have a bit of the plane that is `down` planes below one, if there is such a plane
abbrev pub coded_below : (weights : List ℕ) → (plane down : ℕ) → ℕ → Bool
coded_below weights plane down p = nat_le down plane && coded weights (plane - down) p

-- a bit of the plane that is `down` planes below one, if there is such a plane
abbrev pub weight_below : (plane down : ℕ) → Bool → ℕ
weight_below plane down b = if b && nat_le down plane then 2 ^ (plane - down) else 0

-- the numbers of a mask that have no bit of the plane that is `down` planes below one get it, if there is such a plane
pub record PutsBelow (plane down r mask : ℕ) (old new : List ℤ) : Type 0 where
  pub long : length new ≡ length old
  pub sizes : (p : ℕ) → (down ≤ plane → bit (mask_in old r (plane - down)) p ≡ false) →
      size_in (mask_in new r) p ≡ size_in (mask_in old r) p + weight_below plane down (bit mask p)
  pub slots : (slot : ℕ) → slot < 32 → (slot + down ≡ plane → ⊥) → mask_in new r slot ≡ mask_in old r slot
  pub others : (i slot : ℕ) → 64 * i < length old → slot < 32 → (i ≡ r → ⊥) → mask_in new i slot ≡ mask_in old i slot

-- half of its interval is added to the DC of block r, if the DC had no bit below those that are given
pub record AddsHalf (weights : List ℕ) (q plane r : ℕ) (old new : List ℤ) : Type 0 where
  pub long : length new ≡ length old
  pub dc : HasNoneBelow (dc_reach q plane old r) (dc_in old r) →
      dc_in new r ≡ restored_dc (shift weights 0) (Some (max (shift weights 0) (dc_reach q plane old r))) (dc_in old r)
  pub slots : (slot : ℕ) → slot < 32 → (slot ≡ dc_slot → ⊥) → mask_in new r slot ≡ mask_in old r slot
  pub others : (i slot : ℕ) → 64 * i < length old → slot < 32 → (i ≡ r → ⊥) → mask_in new i slot ≡ mask_in old i slot

-- the numbers of block r are restored, and only masks of planes below this one changed, and the DC
pub record IsRestored (weights : List ℕ) (q plane r : ℕ) (old new : List ℤ) : Type 0 where
  pub dc : dc_in new r ≡ restored_dc (shift weights 0) (Some (max (shift weights 0) (dc_reach q plane old r))) (dc_in old r)
  pub acs : (p : ℕ) → IsAc p → number_in new r p ≡ restored_ac (shift weights p) (Some (ac_reach weights plane old r p)) (number_in old r p)
  pub slots : (slot : ℕ) → plane ≤ slot → slot < 32 → (slot ≡ dc_slot → ⊥) → mask_in new r slot ≡ mask_in old r slot

-- this holds of block r, and all other blocks stay
pub record RestoresBlock (weights : List ℕ) (q plane r : ℕ) (old new : List ℤ) : Type 0 where
  pub long : length new ≡ length old
  pub here : IsRestored weights q plane r old new
  pub others : (i slot : ℕ) → 64 * i < length old → slot < 32 → (i ≡ r → ⊥) → mask_in new i slot ≡ mask_in old i slot
