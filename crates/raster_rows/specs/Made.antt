-- The made image: a rising and falling ramp with noise. This project's own.
use Rattle.std.specs.Prelude.{◌+◌, ◌-◌, ◌*◌, ◌/◌, ◌%◌, ◌^◌, ◌-ℤ◌, ℕ, ℤ, pos, nat_lt, if◌then◌else◌}
use Rattle.raster_rows.specs.declared.made.MadeImage.{MadeImage}

-- the ramp at a row and a column, 0 to 255
abbrev pub ramp : ℕ → ℕ → ℕ → ℕ
ramp seed row column = let phase = (3 * row + 5 * column + seed) % 512 in if nat_lt phase 256 then phase else 511 - phase

-- the noise at a row and a column, 0 to 255
abbrev pub noise : ℕ → ℕ → ℕ → ℕ
noise seed row column = (1664525 * row + 22695477 * column + 1013904223 * seed) % 2 ^ 32 / 2 ^ 24

-- the made pixel at a row and a column
abbrev pub made_value : MadeImage → ℕ → ℕ → ℤ
made_value made row column =
    pos ((15 * ramp made.seed row column + noise made.seed row column) * 2 ^ made.depth / 4096) -ℤ (if made.signed then pos (2 ^ (made.depth - 1)) else pos 0)
