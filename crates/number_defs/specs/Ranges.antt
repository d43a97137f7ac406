-- Numbers of N bits, signed or not. A number is given by its height: how far it is above the least of
-- its range. (CCSDS 122.0-B-2, section 4.3.2.)
use Rattle.std.specs.Prelude.{ℕ, ◌-◌, ◌^◌, ℤ, pos, ◌+ℤ◌, ◌-ℤ◌, neg_ℤ, nat_abs, ◌≤ℤ◌, ◌<ℤ◌, Bool, if◌then◌else◌}
use Rattle.std.specs.Int.{int_shr}

-- the number of numbers of the range that are below 0
abbrev pub negatives : Bool → ℕ → ℕ
negatives signed N = if signed then 2 ^ (N - 1) else 0

pub record IsInRange (signed : Bool) (N : ℕ) (z : ℤ) : Type 0 where
  pub low : neg_ℤ (pos (negatives signed N)) ≤ℤ z
  pub high : z <ℤ (pos (2 ^ N) -ℤ pos (negatives signed N))

-- the number at a height, and the height of a number
abbrev pub number_at : Bool → ℕ → ℕ → ℤ
number_at signed N height = pos height -ℤ pos (negatives signed N)

abbrev pub height_of : Bool → ℕ → ℤ → ℕ
height_of signed N z = nat_abs (z +ℤ pos (negatives signed N))

-- the height of z / 2 ^ shift, rounded down
abbrev pub shifted_height : Bool → ℕ → ℕ → ℤ → ℕ
shifted_height signed N shift z = height_of signed N (int_shr z shift)
