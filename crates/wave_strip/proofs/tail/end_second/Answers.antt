use Rattle.std.proofs.Common.{◌*◌, ◌^◌, ◌∙◌, refl, arith}
use Rattle.wave_defs.specs.Rolling.{beside}
use Rattle.wave_strip.proofs.ChainLemmas.{AreSmall-more}
use Rattle.wave_strip.proofs.tail.end_second.Goals as goal

pub take_mirrored-requires-clause-small : goal.take_mirrored-requires-clause-small
take_mirrored-requires-clause-small c = AreSmall-more 512000 (2 ^ 23) _ _ _ _ _ (omega arith) c.loop-after.invariant.small_second

pub pass_on-requires-clause-small_upper : goal.pass_on-requires-clause-small_upper
pass_on-requires-clause-small_upper c =
    AreSmall-more 512000 838860 _ _ _ _ _ (omega arith) (c.take_mirrored.ensures.small 512000 (omega arith) c.loop-after.invariant.small_second)

pub pass_on-requires-clause-small : goal.pass_on-requires-clause-small
pass_on-requires-clause-small c = AreSmall-more 3200000 (2 ^ 23) _ _ _ _ _ (omega arith) c.loop-after.invariant.small_third

pub loop-after-preserved : goal.loop-after-preserved
loop-after-preserved c =
    let i = c.loop-after.invariant in
    let upper = c.take_mirrored.ensures.small 512000 (omega arith) i.small_second in
    record {
      second_half = c.take_mirrored.ensures.half ∙ i.second_half;
      third_half = c.pass_on.ensures.half ∙ i.third_half;
      kept_second = c.take_mirrored.ensures.kept ∙ i.kept_second;
      kept_third = c.pass_on.ensures.kept ∙ i.kept_third;
      second_taken = omega arith;
      third_taken = c.pass_on.ensures.taken;
      small_second = upper;
      small_third = c.pass_on.ensures.small 102400 640000 (omega arith) (omega arith) upper i.small_third;
      follows = λ x n m two em e f.
          let before = i.follows x n m two em e f in
          let second = c.take_mirrored.ensures.follows (beside x (2 * m)) (2 * n) (omega arith) (omega arith) before.second in
          record {
            second = second;
            third = c.pass_on.ensures.follows x (2 * n) n (2 * m) m two refl (omega arith) (omega arith) (omega arith) second before.third;
          };
    }
