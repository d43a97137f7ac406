-- Whole parts of sums.
use Rattle.std.proofs.Common.{◌≡◌, ◌≤◌, ◌<◌, ◌+◌, ◌-◌, ◌*◌, ◌/◌, ℕ, arith, inl, inr, mul-le-mul_right}
use Rattle.std.specs.Int.{div_ceil}
use Rattle.std.proofs.Math.Nat.{lt-div-mul-add, div-mul-le_self}
use Rattle.std.proofs.lemmas.Bool.{cases_lt}
use Rattle.std.proofs.lemmas.Grind.{div_ceil_times}

-- fewer parts have less
factor : (a b d S : ℕ) → a * S < b * S + S + d * S → a ≤ b + d
factor a b d S lt = elim (cases_lt (b + d) a) [
  | inl over ↦
      let rise : (b + d + 1) * S ≤ a * S = mul-le-mul_right S (omega (arith, over)) in
      let parts : (b + d + 1) * S ≡ b * S + S + d * S = grind arith in
      absurd (omega (arith, rise, parts, lt))
  | inr le ↦ le
]

-- c more add at most the parts of c, rounded up
pub parts_more : (n m c S : ℕ) → 0 < S → n ≤ m + c → n / S - m / S ≤ div_ceil c S
parts_more n m c S some le =
    let up = lt-div-mul-add {a = m} {b = S} some in
    let down = div-mul-le_self n S in
    let ceil = (div_ceil_times c S some).0 in
    let most = factor (n / S) (m / S) (div_ceil c S) S (omega (arith, up, down, ceil, le)) in
    omega (arith, most)

-- and one more if the last part is counted too
pub ceil_more : (n m c S : ℕ) → 0 < S → n ≤ m + c → div_ceil n S - m / S ≤ div_ceil c S + 1
ceil_more n m c S some le =
    let up = lt-div-mul-add {a = m} {b = S} some in
    let down = (div_ceil_times n S some).1 in
    let ceil = (div_ceil_times c S some).0 in
    let e : (div_ceil c S + 1) * S ≡ div_ceil c S * S + S = grind arith in
    let most = factor (div_ceil n S) (m / S) (div_ceil c S + 1) S (omega (arith, up, down, ceil, le, e)) in
    omega (arith, most)
