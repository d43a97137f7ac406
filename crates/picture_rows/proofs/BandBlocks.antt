-- The numbers of a block in the bands of consecutive blocks.
use Rattle.std.proofs.Common.{◌≡◌, ◌^◌, ◌*ℤ◌, ℕ, ℤ, pos, List, get_or, sym, ap, ◌∙◌, arith, All}
use Rattle.base_122.specs.Weights.{IsShift}
use Rattle.base_122.proofs.ShiftLaws.{shift_low}
use Rattle.wave_defs.specs.Line.{floor_div}
use Rattle.wave_defs.specs.Blocks.{place_of, weight_at}
use Rattle.block_families.proofs.Dividing.{divided}

-- a number that was divided by its weight
pub part_is : (weights : List ℕ) (i : ℕ) (part number : ℤ) → All IsShift weights → part *ℤ weight_at weights i ≡ number →
    part ≡ floor_div number (2 ^ get_or weights (place_of i).band 0)
part_is weights i part number shifts e =
    let k = get_or weights (place_of i).band 0 in
    sym (divided part k (shift_low weights (place_of i).band shifts)) ∙ ap (λ z. floor_div z (2 ^ k)) e

-- zero is unchanged
pub zero_is : (weights : List ℕ) (i : ℕ) (number : ℤ) → All IsShift weights → number ≡ pos 0 → pos 0 ≡ floor_div number (2 ^ get_or weights (place_of i).band 0)
zero_is weights i number shifts e =
    let none : pos 0 *ℤ weight_at weights i ≡ pos 0 = ap pos (omega arith) in
    part_is weights i (pos 0) number shifts (none ∙ sym e)
