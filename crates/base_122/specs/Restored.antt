-- A DC number that is moved into the interval that its given bits determine. (docs/formats.md, "Restored numbers"; this project's own.)
use Rattle.std.specs.Prelude.{ℕ, ◌-◌, ◌*◌, ◌/◌, ◌^◌, Option, Some, None, ℤ, pos, ◌+ℤ◌}

-- The number is a multiple of 2 ^ shift, and its bits are given down to plane `low`: it is between itself and 2 ^ low more. Half of that is
-- added, in steps of 2 ^ shift.
abbrev pub restored_dc : (shift : ℕ) → Option ℕ → ℤ → ℤ
restored_dc shift None dc = dc
restored_dc shift (Some low) dc = dc +ℤ pos (2 ^ shift * (2 ^ (low - shift) / 2))
