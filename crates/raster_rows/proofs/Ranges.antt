-- Powers of two that bound pixels.
use Rattle.std.proofs.Common.{◌≡◌, ◌<◌, ◌≤◌, ◌-◌, ◌*◌, ◌/◌, ◌%◌, ◌^◌, ℕ, suc, ap, arith, pow_mono, pow-suc, mul-lt-mul_of_pos_right}
use Rattle.std.proofs.lemmas.Nat.{one_shl, shl_whole, pow_pos, div_below}
use Rattle.std.proofs.lemmas.Bool.Decides.{nat_tests}
use Rattle.raster_rows.specs.Pixels.{IsDepth}

-- all values are twice half of them
pub twice_half : (depth : ℕ) → 1 ≤ depth → 2 ^ depth ≡ 2 * 2 ^ (depth - 1)
twice_half depth some =
    let at : depth ≡ suc (depth - 1) = omega arith in
    let twice : 2 ^ suc (depth - 1) ≡ 2 ^ (depth - 1) * 2 = pow-suc 2 (depth - 1) in
    let whole : 2 ^ depth ≡ 2 ^ suc (depth - 1) = ap (λ k. 2 ^ k) at in
    omega (arith, whole, twice)

-- half of the values, by a shift
pub half_shift : (depth : ℕ) → IsDepth depth → (1 * 2 ^ (depth - 1) % 2 ^ 32 ≡ 2 ^ (depth - 1)) × (1 ≤ 2 ^ (depth - 1)) × (2 ^ (depth - 1) ≤ 2 ^ 15)
half_shift depth is = grind (arith, nat_tests, one_shl, pow_pos, pow_mono)

-- a level of 12 bits at a depth, by a shift
pub level_shift : (level depth : ℕ) → level < 2 ^ 12 → IsDepth depth →
    (level * 2 ^ depth % 2 ^ 32 ≡ level * 2 ^ depth) × (level * 2 ^ depth / 4096 < 2 ^ depth) × (2 ^ depth ≤ 2 ^ 16)
level_shift level depth lt is = grind (arith, nat_tests, mul-lt-mul_of_pos_right, pow_pos, shl_whole, div_below, pow_mono)
