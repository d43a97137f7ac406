use Rattle.std.proofs.Common.{rules, ◌≡◌, ◌<◌, ℕ, ◌+◌, ◌*◌, ◌/◌, ◌^◌, ℤ, pos, ◌*ℤ◌, length, get_or, refl, subst, arith, to_z, of_z, w32}
use Rattle.block_families.specs.Gathering.{FillsEach}
use Rattle.block_families.proofs.Filling.{each_none, each_more, fills_one}
use Rattle.block_families.proofs.gathering.put_tops.Goals as goal

pub loop-k-init : goal.loop-k-init
loop-k-init c = each_none _ _ _ _

pub loop-k-preserved : goal.loop-k-preserved
loop-k-preserved c =
    let n = c.loop-k.k in
    let row = c.args.row.now in
    let value : ℕ → ℕ → ℤ = λ k i. get_or row (c.args.column + k) (pos 0) *ℤ pos (2 ^ c.args.shift) in
    let number : to_z w32 (of_z w32 c.times.result) ≡ get_or row (c.args.column + n) (pos 0) *ℤ pos (2 ^ c.args.shift) = search rules in
    let below : 64 * n + c.args.at < length c.loop-k.into = omega (arith, c.loop-k-test.true, c.requires.at, c.loop-k.auto.into) in
    each_more value (λ j. value n j) c.args.at 1 n (64 * n + c.args.at) c.args.into.now c.loop-k.into _ refl (omega (arith, c.requires.at))
    c.loop-k.invariant (fills_one (λ j. value n j) (64 * n + c.args.at) _ c.loop-k.into below number) (λ i h l. refl)

pub returns : goal.returns
returns c =
    let value : ℕ → ℕ → ℤ = λ k i. get_or c.args.row.now (c.args.column + k) (pos 0) *ℤ pos (2 ^ c.args.shift) in
    let all : c.loop-k.k ≡ length c.args.into.now / 64 = omega (arith, c.loop-k-test.false, c.loop-k.auto.k-end) in
    subst (λ n. FillsEach value c.args.at 1 n c.args.into.now c.loop-k.into) all c.loop-k.invariant
