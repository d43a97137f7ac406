-- Masks that have only the DC of each block. (This project's own.)
use Rattle.std.specs.Prelude.{◌≡◌, ◌<◌, ◌≤◌, ℕ, ◌*◌, ℤ, List, length}
use Rattle.block_masks.specs.Slices.{dc_slot, mask_in}

-- all other masks are empty
pub record HasOnlyDcs (cells : List ℤ) : Type 0 where
  pub others : (r s : ℕ) → 64 * r < length cells → s < 32 → (s ≡ dc_slot → ⊥) → mask_in cells r s ≡ 0

-- the planes from one on have empty masks
abbrev pub AreBelow : (planes : ℕ) → List ℤ → Type 0
AreBelow planes cells = (r slot : ℕ) → 64 * r < length cells → planes ≤ slot → slot < 27 → mask_in cells r slot ≡ 0
