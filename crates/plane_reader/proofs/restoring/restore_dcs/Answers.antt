use Rattle.std.proofs.Common.{rules, ◌*◌, ◌<◌, ◌^◌, ◌∙◌, pos, ◌+ℤ◌, length, get_or, ap, sym, arith, w32, FitsSigned}
use Rattle.std.proofs.lemmas.Int.{to_z-of_z}
use Rattle.plane_defs.specs.Sets.{shift}
use Rattle.plane_reader.proofs.RestBits.{restored_half}
use Rattle.plane_reader.proofs.RestoredBlocks.{some_half}
use Rattle.plane_reader.proofs.HalvedBlocks.{halved_more}
use Rattle.plane_reader.proofs.restoring.restore_dcs.Goals as goal

pub loop-r-preserved : goal.loop-r-preserved
loop-r-preserved c =
    let weights = c.args.plan.now.weights.shifts in
    let s = shift weights 0 in
    let low = c.args.low in
    let r = c.loop-r.r in
    let dc = get_or c.loop-r.blocks (64 * r) (pos 0) in
    let half = some_half weights low c.in-Some.plane (sym c.half_of.ensures ∙ c.in-Some.is) in
    let fits : FitsSigned w32 c.with_bit.result = search rules in
    let known : FitsSigned w32 dc = search rules in
    let inside : 64 * r < length c.args.blocks.now = omega (arith, c.loop-r-test.true) in
    record {
      so_far = halved_more inside c.loop-r.invariant.so_far (to_z-of_z w32 c.with_bit.result fits ∙ c.with_bit.ensures ∙
          ap (λ z. z +ℤ pos (2 ^ c.in-Some.plane)) (to_z-of_z w32 dc known) ∙
          ap (λ n. dc +ℤ pos (2 ^ n)) half.1 ∙ sym (restored_half s low dc half.0));
    }
