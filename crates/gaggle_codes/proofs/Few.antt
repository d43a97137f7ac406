-- Heights of numbers in range.
use Rattle.std.proofs.Common.{ℕ, ◌^◌, ◌<◌, ◌≤◌, ℤ, List, get_or, arith, pow_pos}
use Rattle.std.proofs.lemmas.List.{get_or_past}
use Rattle.std.proofs.lemmas.Bool.Decides.{nat_tests}
use Rattle.number_defs.specs.Cells.{AreInRange}
use Rattle.number_defs.proofs.Heights.{height_below}
use Rattle.number_defs.proofs.CellPlaces.{made_length, made_at, place_within}
use Rattle.gaggle_codes.specs.declared.range.NumberRange.{NumberRange}
use Rattle.gaggle_codes.specs.Written.{heights}

pub heights_few : (range : NumberRange) (shift stride : ℕ) (cells : List ℤ) → 1 ≤ stride → AreInRange range.signed range.bits shift stride cells → (i : ℕ) →
    get_or (heights range shift stride cells) i 0 < 2 ^ range.bits
heights_few range shift stride cells low h i = grind (arith, nat_tests, place_within, made_length, made_at, height_below, get_or_past, pow_pos)
