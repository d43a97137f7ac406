-- The numbers of a segment as masks, in the place of the numbers. A group is 64 blocks, and the last one has those that are left.
-- It has 32 slots, one after another, and a slot has a mask of 64 bits for each block of the group: slots 0 to 26 say which numbers
-- have the bit of weight 2^slot in their magnitude, slot 28 which are negative, slot 29 which are significant above the plane that
-- is coded next, and slot 30 has the DC itself. No number depends on slots 27 and 31. (This project's own.)
use Rattle.std.specs.Prelude.{◌≡◌, ◌<◌, ◌≤◌, ℕ, ◌+◌, ◌-◌, ◌*◌, ◌/◌, ◌%◌, ◌^◌, ℤ, pos, Bool, ◌||◌, min, List, length, map}
use Rattle.std.specs.List.{range_with_len}
use Rattle.std.specs.Int.{w32, cast_unsigned, cast_signed}
use lib.ListN.{get_or}
use Rattle.item_defs.specs.Bits.{bit}
use Rattle.block_masks.specs.declared.slices.Column.{Column}
use Rattle.block_masks.specs.Masks.{Shows}
use Rattle.block_masks.specs.MaskedNumbers.{number_from}

abbrev pub minus_slot : ℕ
minus_slot = 28

abbrev pub above_slot : ℕ
above_slot = 29

abbrev pub dc_slot : ℕ
dc_slot = 30

-- the number of blocks in the group of block r, of `count` blocks
abbrev pub width : (count r : ℕ) → ℕ
width count r = min 64 (count - 64 * (r / 64))

-- the place of a mask's low half; its high half is in the next place
abbrev pub place : (count r slot : ℕ) → ℕ
place count r slot = 4096 * (r / 64) + 2 * (width count r * slot + r % 64)

-- a column has the places of the masks of its block
pub record IsColumn (cells : List ℤ) (column : Column) : Type 0 where
  pub block : 64 * column.block < length cells
  pub first : column.first ≡ place (length cells / 64) column.block 0
  pub step : column.step ≡ 2 * width (length cells / 64) column.block

-- the mask whose halves are in two places
abbrev pub mask_from : List ℤ → ℕ → ℕ
mask_from cells i = cast_unsigned w32 (get_or cells i (pos 0)) + 2 ^ 32 * cast_unsigned w32 (get_or cells (i + 1) (pos 0))

-- the mask of a slot for block r
unfoldable pub mask_in : List ℤ → (r slot : ℕ) → ℕ
mask_in cells r slot = mask_from cells (place (length cells / 64) r slot)

-- number k of block r
unfoldable pub number_in : List ℤ → (r k : ℕ) → ℤ
number_in cells r k = number_from (mask_in cells r) (mask_in cells r minus_slot) (cast_signed w32 (mask_in cells r dc_slot % 2 ^ 32)) k

-- the numbers of all blocks, one block after another
unfoldable pub numbers_in : List ℤ → List ℤ
numbers_in cells = map (λ i. number_in cells (i / 64) (i % 64)) (range_with_len 0 (length cells))

-- one mask is another one, and all others stay
pub record PutsMask (r slot mask : ℕ) (old new : List ℤ) : Type 0 where
  pub long : length new ≡ length old
  pub here : mask_in new r slot ≡ mask
  pub other_slots : (s : ℕ) → s < 32 → (s ≡ slot → ⊥) → mask_in new r s ≡ mask_in old r s
  pub other_blocks : (q s : ℕ) → 64 * q < length old → s < 32 → (q ≡ r → ⊥) → mask_in new q s ≡ mask_in old q s

-- the masks of what is significant above a plane got what has the plane's bit, for the first `blocks` blocks, and all other masks stay
pub record Settles (plane blocks : ℕ) (old new : List ℤ) : Type 0 where
  pub long : length new ≡ length old
  pub if_known : (r : ℕ) (f g : ℕ → Bool) → r < blocks → 64 * r < length old → Shows (mask_in old r above_slot) f 0 64 → Shows (mask_in old r plane) g 0 64 →
      Shows (mask_in new r above_slot) (λ p. f p || g p) 0 64
  pub bits : (r k : ℕ) → r < blocks → 64 * r < length old → k < 64 →
      bit (mask_in new r above_slot) k ≡ (bit (mask_in old r above_slot) k || bit (mask_in old r plane) k)
  pub later : (r : ℕ) → blocks ≤ r → 64 * r < length old → mask_in new r above_slot ≡ mask_in old r above_slot
  pub other_slots : (r s : ℕ) → 64 * r < length old → s < 32 → (s ≡ above_slot → ⊥) → mask_in new r s ≡ mask_in old r s
