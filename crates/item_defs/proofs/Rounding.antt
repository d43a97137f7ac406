-- Lengths rounded up to whole words.
use Rattle.std.proofs.Common.{◌≡◌, ℕ, ◌+◌, ◌-◌, ◌*◌, ◌/◌, ◌%◌, ◌<◌, ◌≤◌, arith, mul-le-mul_right}
use Rattle.std.proofs.lemmas.Nat.{div-add-mod', mod_below}
use Rattle.std.proofs.lemmas.Bool.Decides.{nat_tests}
use Rattle.item_defs.specs.Padding.{rounded}

-- it is at least n, and less than a unit more
pub rounded_bounds : (unit n : ℕ) → 0 < unit → (n ≤ rounded unit n) × (rounded unit n < n + unit)
rounded_bounds unit n lt =
    let m = n + (unit - 1) in
    let split : m / unit * unit + m % unit ≡ m = div-add-mod' m unit in
    let small : m % unit < unit = mod_below m unit lt in
    (omega (arith, split, small), omega (arith, split, small))

-- no smaller multiple of the unit is at least n
pub rounded_least : (unit n k : ℕ) → 0 < unit → n ≤ k * unit → rounded unit n ≤ k * unit
rounded_least unit n k lt le = grind (arith, nat_tests, rounded_bounds, mul-le-mul_right)

-- a multiple of the unit that is at least n, and less than a unit more
pub rounded_is : (unit n k : ℕ) → 0 < unit → n ≤ k * unit → k * unit < n + unit → k * unit ≡ rounded unit n
rounded_is unit n k lt low high = grind (arith, nat_tests, rounded_bounds, rounded_least, mul-le-mul_right)
