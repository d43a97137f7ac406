use Rattle.std.proofs.Common.{◌^◌, ◌∙◌, arith}
use Rattle.wave_strip.proofs.ChainLemmas.{AreSmall-more}
use Rattle.wave_strip.proofs.tail.end_third.Goals as goal

pub take_mirrored-requires-clause-small : goal.take_mirrored-requires-clause-small
take_mirrored-requires-clause-small c = AreSmall-more 3200000 (2 ^ 23) _ _ _ _ _ (omega arith) c.loop-after.invariant.small

pub loop-after-preserved : goal.loop-after-preserved
loop-after-preserved c =
    let i = c.loop-after.invariant in
    record {
      half = c.take_mirrored.ensures.half ∙ i.half;
      kept = c.take_mirrored.ensures.kept ∙ i.kept;
      taken = omega arith;
      small = c.take_mirrored.ensures.small 3200000 (omega arith) i.small;
      follows = λ a n two e f. c.take_mirrored.ensures.follows a n two (omega arith) (i.follows a n two e f);
    }
