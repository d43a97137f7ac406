use Rattle.std.proofs.Common.{◌≡◌, ℤ, ◌+ℤ◌, SFits, w32, w64, to_z, of_z, ap, ◌∙◌, arith}
use Rattle.std.proofs.lemmas.Int.{ints, to_z-of_z}
use Rattle.wave_defs.specs.Line.{predicted}
use Rattle.lift_lanes.proofs.back_samples.odd_sample_narrow.Goals as goal

-- a number of 32 bits that was continued in 64
continued : (z f : ℤ) → SFits w32 z → f ≡ to_z w32 (of_z w32 z) → to_z w64 (of_z w64 f) ≡ z
continued z f fits e =
    let long : SFits w64 z = let small = fits.sfits in record { sfits = omega (arith, small) } in
    ap (λ (v : ℤ). to_z w64 (of_z w64 v)) (e ∙ to_z-of_z w32 z fits) ∙ to_z-of_z w64 z long

computed : (c : goal.After-odd_sample) → c.odd_sample.result ≡ (c.args.high +ℤ predicted c.args.a c.args.b c.args.c c.args.d)
computed c =
    let h = continued c.args.high c.from.result c.ranges.high c.from.ensures in
    let a = continued c.args.a c.from-2.result c.ranges.a c.from-2.ensures in
    let b = continued c.args.b c.from-3.result c.ranges.b c.from-3.ensures in
    let m = continued c.args.c c.from-4.result c.ranges.c c.from-4.ensures in
    let d = continued c.args.d c.from-5.result c.ranges.d c.from-5.ensures in
    let is = c.odd_sample.ensures in
    cc

pub overflow_cast-result : goal.overflow_cast-result
overflow_cast-result c =
    let is = computed c in
    omega (arith, ints)

pub returns : goal.returns
returns c =
    let is = computed c in
    omega (arith, ints)
