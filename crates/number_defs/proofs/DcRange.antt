-- A DC of this number of bits, over 2 ^ q, has a number with the bits that are left.
use Rattle.std.proofs.Common.{ℕ, ◌*◌, ◌-◌, ◌/◌, ◌^◌, ◌<◌, ◌≤◌, max, ℤ, pos, negsuc, List, length, true, arith, pow_mono}
use Rattle.std.specs.Int.{int_shr}
use Rattle.std.proofs.lemmas.Int.{ints}
use Rattle.std.proofs.lemmas.Nat.{shr_below}
use Rattle.std.proofs.lemmas.Bool.Decides.{nat_tests}
use Rattle.number_defs.specs.Ranges.{IsInRange}
use Rattle.number_defs.specs.Cells.{AreInRange, cell_at}
use Rattle.number_defs.specs.DcPart.{dc_q, dc_bits}
use Rattle.number_defs.proofs.Heights.{half}

shifted_below : (d q a : ℕ) → 1 ≤ d → a < 2 ^ (d - 1) → a / 2 ^ q < 2 ^ (max (d - q) 1 - 1)
shifted_below d q a low lt = grind (arith, nat_tests, pow_mono, shr_below)

pub dc_in_range : (d q : ℕ) (z : ℤ) → 1 ≤ d → IsInRange true d z → IsInRange true (max (d - q) 1) (int_shr z q)
dc_in_range d q (pos a) low h =
    let whole = half d low in
    let left = half (max (d - q) 1) (omega arith) in
    let lt : a < 2 ^ (d - 1) = omega (arith, ints, h.high, whole) in
    let below = shifted_below d q a low lt in
    record { low = omega (arith, ints); high = omega (arith, ints, below, left) }
dc_in_range d q (negsuc a) low h =
    let left = half (max (d - q) 1) (omega arith) in
    let lt : a < 2 ^ (d - 1) = omega (arith, ints, h.low) in
    let below = shifted_below d q a low lt in
    record { low = omega (arith, ints, below); high = omega (arith, ints, left) }

pub dc_fits : (depth_dc depth_ac shift : ℕ) (z : ℤ) → 1 ≤ depth_dc → IsInRange true depth_dc z →
    IsInRange true (dc_bits depth_dc depth_ac shift) (int_shr z (dc_q depth_dc depth_ac shift))
dc_fits depth_dc depth_ac shift z low h = dc_in_range depth_dc (dc_q depth_dc depth_ac shift) z low h

-- the DCs of blocks of 64 numbers
pub dcs_fit : (depth_dc depth_ac shift : ℕ) (cells : List ℤ) → 1 ≤ depth_dc → ((m : ℕ) → m * 64 < length cells → IsInRange true depth_dc (cell_at 64 cells m)) →
    AreInRange true (dc_bits depth_dc depth_ac shift) (dc_q depth_dc depth_ac shift) 64 cells
dcs_fit depth_dc depth_ac shift cells low h = record { at = λ m lt. dc_fits depth_dc depth_ac shift (cell_at 64 cells m) low (h m lt) }
