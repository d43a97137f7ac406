use Rattle.std.proofs.Common.{◌≡◌, ◌≤◌, ◌<◌, ◌+ℤ◌, ℕ, ◌+◌, ◌-◌, ◌*◌, ◌/◌, ◌^◌, pos, ap, sym, ◌∙◌, arith, w32, rules, pow_mono, pow-add}
use Rattle.std.proofs.lemmas.Int.{ints, to_z-of_z}
use Rattle.dc_depths.proofs.restore.half_interval.Goals as goal

-- half of 2 ^ (low - shift), in steps of 2 ^ shift
half_steps : (shift low : ℕ) → shift < low → 2 ^ shift * (2 ^ (low - shift) / 2) ≡ 2 ^ (low - 1)
half_steps shift low lt =
    let u : low - shift ≡ (low - shift - 1) + 1 = omega (arith, lt) in
    let whole : 2 ^ (low - shift) ≡ 2 ^ (low - shift - 1) * 2 = ap (λ n. 2 ^ n) u ∙ pow-add 2 (low - shift - 1) 1 in
    let half : 2 ^ (low - shift) / 2 ≡ 2 ^ (low - shift - 1) = omega (arith, whole) in
    let exponent : shift + (low - shift - 1) ≡ low - 1 = omega (arith, lt) in
    ap (λ n. 2 ^ shift * n) half ∙ sym (pow-add 2 shift (low - shift - 1)) ∙ ap (λ n. 2 ^ n) exponent

pub returns-in-Some-clause-is : goal.returns-in-Some-clause-is
returns-in-Some-clause-is c = λ dc.
    let fits = to_z-of_z w32 c.power.result (search rules) in
    let lt : c.args.shift < c.in-Some.low = c.if-low-shift.true in
    rw (fits, c.in-Some.is) (ap (λ n. dc +ℤ pos n) (half_steps c.args.shift c.in-Some.low lt) ∙ ap (λ n. dc +ℤ n) (sym c.power.ensures))

pub returns-in-Some-clause-small : goal.returns-in-Some-clause-small
returns-in-Some-clause-small c =
    let fits = to_z-of_z w32 c.power.result (search rules) in
    let low : c.in-Some.low ≤ 27 = c.requires c.in-Some.low c.in-Some.is in
    let lower : c.in-Some.low - 1 ≤ 27 = omega (arith, low) in
    let most : 2 ^ (c.in-Some.low - 1) ≤ 2 ^ 27 = pow_mono lower in
    rw (fits, c.power.ensures) (omega (arith, ints, most))
