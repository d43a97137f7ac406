-- The groups of a mask that have bits. (This project's own.)
use Rattle.std.specs.Prelude.{◌≡◌, ◌<◌, ℕ, ◌+◌, ◌*◌, ◌^◌, Bool, true, false}
use Rattle.item_defs.specs.Bits.{bit}
use Rattle.block_masks.specs.Masks.{Shows}

-- a group that sends no bits: no type of it is due, and none must be 1
pub record SendsNothing (wanted : ℕ → Bool) (first due n : ℕ) : Type 0 where
  pub unwanted : wanted n ≡ false
  pub none : Shows 0 (λ p. bit due p) (first + 4 * n) 4

-- a mask has the groups that are sent, except some that send no bits
pub record Covers (first count : ℕ) (now wanted : ℕ → Bool) (due mask : ℕ) : Type 0 where
  pub small : mask < 2 ^ count
  pub sent : (n : ℕ) → n < count → bit mask n ≡ true → now n ≡ true
  pub others : (n : ℕ) → n < count → bit mask n ≡ false → now n ≡ true → SendsNothing wanted first due n
