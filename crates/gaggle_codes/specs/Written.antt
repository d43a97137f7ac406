-- The numbers that a writer reads from a slice. (This project's own.)
use Rattle.std.specs.Prelude.{ℕ, ℤ, List, map, Bool, false}
use Rattle.number_defs.specs.Ranges.{shifted_height}
use Rattle.number_defs.specs.Cells.{strided}
use Rattle.number_defs.specs.Gaggles.{Kind}
use Rattle.gaggle_codes.specs.declared.range.NumberRange.{NumberRange}
use Rattle.gaggle_codes.specs.declared.numbers.Numbers.{Numbers}

-- the heights of every `stride`-th cell over 2 ^ shift, rounded down
abbrev pub heights : NumberRange → ℕ → ℕ → List ℤ → List ℕ
heights range shift stride cells = map (shifted_height range.signed range.bits shift) (strided stride cells)

abbrev pub heights_of : Numbers → List ℕ
heights_of numbers = heights numbers.range numbers.shift numbers.stride numbers.cells.now

-- numbers of a range, of which a reader may refuse some
abbrev pub kind_of : NumberRange → (ℕ → Bool) → Kind
kind_of range too_great = record { signed = range.signed; bits = range.bits; too_great = too_great }

-- numbers of a range, of which none is too great
abbrev pub any_of : NumberRange → Kind
any_of range = kind_of range (λ height. false)
