-- The masks of a segment whose planes are read one after the other. (This project's own.)
use Rattle.std.specs.Prelude.{◌≡◌, ◌<◌, ℕ, ◌*◌, ◌^◌, min, ℤ, pos, true, false, unsigned_abs, List, [], length}
use lib.ListN.{get_or}
use Rattle.item_defs.specs.Bits.{bit}
use Rattle.wave_defs.specs.Held.{block_at}
use Rattle.plane_defs.specs.Sets.{significant}
use Rattle.plane_defs.specs.StepLaws.{IsAc}
use Rattle.block_masks.specs.Slices.{minus_slot, above_slot, mask_in, numbers_in}
use Rattle.block_masks.specs.MaskedNumbers.{size_in}

-- The AC numbers that are marked as negative are not 0, the masks of what is significant say which AC numbers are significant in
-- a plane, and no AC number has a bit of a plane below it.
pub record AreReady (plane : ℕ) (cells : List ℤ) : Type 0 where
  pub signed : (r p : ℕ) → 64 * r < length cells → IsAc p → bit (mask_in cells r minus_slot) p ≡ true → 0 < size_in (mask_in cells r) p
  pub above : (r p : ℕ) → 64 * r < length cells → IsAc p → bit (mask_in cells r above_slot) p ≡ significant (block_at (numbers_in cells) r) plane p
  pub empty : (r slot p : ℕ) → 64 * r < length cells → slot < plane → slot < 27 → IsAc p → bit (mask_in cells r slot) p ≡ false

-- all AC numbers are 0
abbrev pub HasNoAcs : List ℤ → Type 0
HasNoAcs blocks = (r p : ℕ) → 64 * r < length blocks → IsAc p → get_or (block_at blocks r) p (pos 0) ≡ pos 0

-- a number has no bit below this plane
pub record HasNoneBelow (plane : ℕ) (z : ℤ) : Type 0 where
  pub part : ℕ
  pub whole : unsigned_abs z ≡ 2 ^ plane * part

-- the DC numbers of these blocks have no bit below a plane, except those of the DC part, which leaves out q low bits
abbrev pub AwaitDcs : (plane q : ℕ) → List (List ℤ) → Type 0
AwaitDcs plane q numbers = (r : ℕ) → r < length numbers → HasNoneBelow (min plane q) (get_or (get_or numbers r []) 0 (pos 0))
