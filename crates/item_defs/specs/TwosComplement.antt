-- The two's complement form of numbers.
use Rattle.std.specs.Prelude.{ℕ, ◌-◌, ◌%◌, ◌^◌, ℤ, pos, negsuc}

-- the lowest w bits of a number's two's complement form
abbrev pub complement : ℕ → ℤ → ℕ
complement w (pos a) = a % 2 ^ w
complement w (negsuc a) = 2 ^ w - 1 - a % 2 ^ w
