-- The bits of block depths.
use Rattle.std.proofs.Common.{◌≡◌, ℕ, ◌+◌, ◌-◌, ◌^◌, ◌<◌, ◌≤◌, true, false, leb, refl, arith, find, Some, pow_mono}
use Rattle.std.specs.List.{range_with_len}
use Rattle.std.proofs.lemmas.Bool.Decides.{nat_tests}
use Rattle.number_defs.specs.Depths.{depth_bits}
use Rattle.number_defs.proofs.Searching.{first_of_range}

-- the least width that holds the greatest depth
pub depth_bits_are : (depth_ac w : ℕ) → w ≤ depth_ac → 1 + depth_ac ≤ 2 ^ w → 2 ^ (w - 1) < 1 + depth_ac → 1 ≤ w → w ≡ depth_bits depth_ac
depth_bits_are depth_ac w within holds least some =
    let here : leb (1 + depth_ac) (2 ^ w) ≡ true = grind (arith, nat_tests) in
    let found : find (λ v. leb (1 + depth_ac) (2 ^ v)) (range_with_len 0 (depth_ac + 1)) ≡ Some w =
    first_of_range (λ v. leb (1 + depth_ac) (2 ^ v)) 0 (depth_ac + 1) w (omega arith) (omega arith) here
    (λ i from lt. let q : 2 ^ i ≤ 2 ^ (w - 1) = pow_mono (omega arith) in let r : leb (1 + depth_ac) (2 ^ i) ≡ false = grind (arith, nat_tests, q) in r) in
    rw found refl
