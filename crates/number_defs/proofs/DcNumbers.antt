-- The range of DC numbers bit by bit.
use Rattle.std.proofs.Common.{◌≡◌, ℕ, ◌+◌, ◌-◌, ◌≤◌, ◌<◌, ◌^◌, ap, arith, ℤ, true}
use Rattle.std.proofs.lemmas.Int.{ints}
use Rattle.number_defs.specs.Ranges.{IsInRange}
use Rattle.number_defs.proofs.Heights.{half}
use Rattle.item_defs.proofs.TwosComplement.{twice}

pub range_more : (N b : ℕ) (z : ℤ) → 1 ≤ N → b < 2 → IsInRange true N z → IsInRange true (N + 1) (twice z b)
range_more N b z some lt r =
    let e = half (N + 1) (omega arith) in
    let f = half N some in
    let g : N + 1 - 1 ≡ N = omega arith in
    let h : 2 ^ (N + 1 - 1) ≡ 2 ^ N = ap (λ n. 2 ^ n) g in
    let low = r.low in
    let high = r.high in
    record { low = omega (arith, ints, low, e, f, h); high = omega (arith, ints, high, e, f, h, lt) }
