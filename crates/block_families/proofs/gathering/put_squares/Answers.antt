use Rattle.std.proofs.Common.{◌≡◌, ℕ, ◌+◌, ◌-◌, ◌*◌, ◌/◌, ◌^◌, ℤ, pos, ◌*ℤ◌, length, refl, ap, subst, arith}
use Rattle.block_families.specs.Gathering.{FillsEach, square}
use Rattle.block_families.proofs.Filling.{each_none, each_more}
use Rattle.block_families.proofs.gathering.put_squares.Goals as goal

pub loop-k-init : goal.loop-k-init
loop-k-init c = each_none _ _ _ _

pub loop-k-preserved : goal.loop-k-preserved
loop-k-preserved c =
    let at = c.args.squares in
    let n = c.loop-k.k in
    let value : ℕ → ℕ → ℤ = λ k i. square c.args.upper.now c.args.lower.now (at.start + at.step * k) (i - at.at) *ℤ pos (2 ^ at.shift) in
    let one : ℕ → ℤ = λ j. square c.args.upper.now c.args.lower.now (at.start + at.step * n) (j - (64 * n + at.at)) *ℤ pos (2 ^ at.shift) in
    each_more value one at.at 4 n (64 * n + at.at) c.args.into.now c.loop-k.into c.put_square.new.into refl c.requires.at c.loop-k.invariant
    c.put_square.ensures
    (λ i h l. let same : 64 * n + i - (64 * n + at.at) ≡ i - at.at = omega arith in
    ap (λ j. square c.args.upper.now c.args.lower.now (at.start + at.step * n) j *ℤ pos (2 ^ at.shift)) same)

pub returns : goal.returns
returns c =
    let at = c.args.squares in
    let value : ℕ → ℕ → ℤ = λ k i. square c.args.upper.now c.args.lower.now (at.start + at.step * k) (i - at.at) *ℤ pos (2 ^ at.shift) in
    let all : c.loop-k.k ≡ length c.args.into.now / 64 = omega (arith, c.loop-k-test.false, c.loop-k.auto.k-end) in
    subst (λ n. FillsEach value at.at 4 n c.args.into.now c.loop-k.into) all c.loop-k.invariant
