use Rattle.std.proofs.Common.{rules, ℕ, zero, suc, ◌+◌, ◌*◌, ◌<◌, ◌≤◌, ◌^◌, ℤ, pos, negsuc, ◌*ℤ◌, arith, slice_index, unsigned_abs, mul-le-mul, pow_mono}
use Rattle.std.proofs.lemmas.Int.{unsigned_abs-mul}
use Rattle.base_122.specs.Weights.{usual_shifts}
use Rattle.wave_defs.specs.Blocks.{place_of}
use Rattle.base_122.proofs.ShiftLaws.{shift_low}
use Rattle.wave_tests.proofs.places.gather_named.Goals as goal

product_small : (a : ℤ) (b : ℕ) → unsigned_abs a ≤ 400 → b ≤ 8 → unsigned_abs (a *ℤ pos b) < 2 ^ 31
product_small a b ha hb =
    let size = unsigned_abs-mul a (pos b) in
    let most : unsigned_abs a * b ≤ 400 * 8 = mul-le-mul ha hb in omega (arith, size, most)

pub gather-requires-clause-fits : goal.gather-requires-clause-fits
gather-requires-clause-fits c = λ i h.
    let small : slice_index c.usual.result.shifts (place_of i).band ≤ 3 = rw c.usual.ensures (shift_low usual_shifts (place_of i).band (search rules)) in
    let weight : 2 ^ slice_index c.usual.result.shifts (place_of i).band ≤ 2 ^ 3 = pow_mono small in
    product_small _ (2 ^ slice_index c.usual.result.shifts (place_of i).band) (c.each_named.ensures _) (omega arith)
