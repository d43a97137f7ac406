-- Levels of an image whose rows arrive one after the other.
use Rattle.std.specs.Prelude.{ℕ, ◌+◌, ◌-◌, ◌*◌, min, ℤ, ◌-ℤ◌, if◌then◌else◌, nat_lt}
use Rattle.wave_defs.specs.Line.{predicted, correction, even_before, low_of, high_of}

-- the high and the low row j of the columns of an image that has no last row
unfoldable pub open_high : (ℕ → ℕ → ℤ) → ℕ → ℕ → ℤ
open_high a j c =
    a (2 * j + 1) c -ℤ predicted (a (2 * even_before j) c) (a (2 * j) c) (a (2 * (j + 1)) c) (a (2 * (j + 2)) c)

unfoldable pub open_low : (ℕ → ℕ → ℤ) → ℕ → ℕ → ℤ
open_low a j c = a (2 * j) c -ℤ correction (open_high a (j - 1) c) (open_high a j c)

-- an image of 2 * n rows, with its mirror after the last one: row 2 * n - 1 + i is row 2 * n - 1 - i
abbrev pub mirrored : (ℕ → ℕ → ℤ) → ℕ → ℕ → ℕ → ℤ
mirrored a n i = a (min i (4 * n - 2 - i))

-- a line of 2 * m samples as its m low samples and then its m high ones
unfoldable pub parted : (ℕ → ℤ) → ℕ → ℕ → ℤ
parted x m c = if nat_lt c m then low_of x m c else high_of x m (c - m)

-- each row of an image in this form
abbrev pub beside : (ℕ → ℕ → ℤ) → ℕ → ℕ → ℕ → ℤ
beside a m i = parted (a i) m
