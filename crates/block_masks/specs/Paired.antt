-- Two masks of all positions as octets. (This project's own.)
use Rattle.std.specs.Prelude.{◌≡◌, ◌<◌, ℕ, ◌+◌, ◌*◌, ◌/◌, ◌%◌, ◌^◌}
use Rattle.block_masks.specs.declared.paired.PairedFours.{PairedFours}

-- octet j has the first four of the j-th eight positions of both masks, those of the first mask as its high digits
abbrev pub AreOctets : (high low octets : ℕ) → Type 0
AreOctets high low octets = (j : ℕ) → j < 8 → octets / 2 ^ (8 * j) % 2 ^ 8 ≡ 16 * (high / 2 ^ (8 * j) % 2 ^ 4) + low / 2 ^ (8 * j) % 2 ^ 4

-- the fours of even and of odd number
pub record ArePaired (high low : ℕ) (pairs : PairedFours) : Type 0 where
  pub even : AreOctets high low pairs.even
  pub odd : AreOctets (high / 2 ^ 4) (low / 2 ^ 4) pairs.odd
