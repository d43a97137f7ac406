-- The numbers of a block, of which the masks have one bit each. (This project's own.)
use Rattle.std.specs.Prelude.{ℕ, zero, suc, ◌==◌, ℤ, pos, neg_ℤ, Bool, List, [], ◌∷◌, if◌then◌else◌}
use Rattle.item_defs.specs.Bits.{bit, value_of}

-- the bits of number k in the first planes, the highest first; `plane_mask` has the mask of each plane
unfoldable pub bits_below : (plane_mask : ℕ → ℕ) → (k planes : ℕ) → List Bool
bits_below plane_mask k zero = []
bits_below plane_mask k (suc plane) = bit (plane_mask plane) k ∷ bits_below plane_mask k plane

-- the magnitude of number k, which is no DC
abbrev pub size_in : (plane_mask : ℕ → ℕ) → (k : ℕ) → ℕ
size_in plane_mask k = value_of (bits_below plane_mask k 27)

-- number k, of which `minus` says whether it is negative, or the DC
unfoldable pub number_from : (plane_mask : ℕ → ℕ) → (minus : ℕ) → (dc : ℤ) → (k : ℕ) → ℤ
number_from plane_mask minus dc k =
    if k == 0 then dc
    else if bit minus k then neg_ℤ (pos (size_in plane_mask k)) else pos (size_in plane_mask k)
