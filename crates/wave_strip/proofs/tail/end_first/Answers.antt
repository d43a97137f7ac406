use Rattle.std.proofs.Common.{◌*◌, ◌^◌, ◌∙◌, arith}
use Rattle.wave_defs.specs.Rolling.{beside}
use Rattle.wave_strip.proofs.ChainLemmas.{AreSmall-more}
use Rattle.wave_strip.proofs.tail.end_first.Goals as goal

pub take_mirrored-requires-clause-small : goal.take_mirrored-requires-clause-small
take_mirrored-requires-clause-small c = AreSmall-more 81920 (2 ^ 23) _ _ _ _ _ (omega arith) c.loop-after.invariant.small_first

pub hand_down-requires-clause-small_first : goal.hand_down-requires-clause-small_first
hand_down-requires-clause-small_first c = c.take_mirrored.ensures.small 81920 (omega arith) c.loop-after.invariant.small_first

pub loop-after-preserved : goal.loop-after-preserved
loop-after-preserved c =
    let i = c.loop-after.invariant in
    record {
      first_half = c.take_mirrored.ensures.half ∙ i.first_half;
      second_half = c.hand_down.ensures.halves ∙ i.second_half;
      third_half = c.hand_down.ensures.quarters ∙ i.third_half;
      kept_first = c.take_mirrored.ensures.kept ∙ i.kept_first;
      kept_second = c.hand_down.ensures.kept_second ∙ i.kept_second;
      kept_third = c.hand_down.ensures.kept_third ∙ i.kept_third;
      first_taken = omega arith;
      second_taken = c.hand_down.ensures.second_taken;
      third_taken = omega arith;
      small_first = c.take_mirrored.ensures.small 81920 (omega arith) i.small_first;
      small_second = c.hand_down.ensures.small_second;
      small_third = c.hand_down.ensures.small_third;
      follows = λ x n m two em e f.
          let before = i.follows x n m two em e f in
          let first = c.take_mirrored.ensures.follows (beside x (4 * m)) (4 * n) (omega arith) (omega arith) before.first in
          c.hand_down.ensures.follows x n m two (omega arith) (omega arith) (record { first = first; second = before.second; third = before.third });
    }
