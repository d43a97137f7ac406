-- Masks of consecutive positions.
use Rattle.std.specs.Prelude.{◌≡◌, ◌<◌, ℕ, ◌+◌, ◌^◌, Bool}
use Rattle.item_defs.specs.Bits.{bit}

-- bit k is f at the k-th position from a start on, and no bit is set past them
pub record Shows (mask : ℕ) (f : ℕ → Bool) (start count : ℕ) : Type 0 where
  pub at : (k : ℕ) → k < count → bit mask k ≡ f (start + k)
  pub small : mask < 2 ^ count
