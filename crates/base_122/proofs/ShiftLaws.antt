-- The shifts of weights.
use Rattle.std.proofs.Common.{◌≤◌, ℕ, List, All, arith, get_or}
use Rattle.std.proofs.lemmas.Bool.Decides.{nat_tests}
use Rattle.std.proofs.lemmas.List.{get_or_past}
use Rattle.base_122.specs.Weights.{IsShift}

-- each is at most 3, and 0 past the last
pub shift_low : (shifts : List ℕ) (k : ℕ) → All IsShift shifts → get_or shifts k 0 ≤ 3
shift_low shifts k each = grind (arith, nat_tests, get_or_past)
