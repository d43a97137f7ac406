use Rattle.std.proofs.Common.{◌^◌, arith}
use Rattle.wave_strip.proofs.ChainLemmas.{AreSmall-more}
use Rattle.wave_strip.proofs.chain.hand_down.Goals as goal

pub pass_on-requires-clause-small_upper : goal.pass_on-requires-clause-small_upper
pass_on-requires-clause-small_upper c = AreSmall-more 81920 838860 _ _ _ _ _ (omega arith) c.requires.small_first

pub pass_on-requires-clause-small : goal.pass_on-requires-clause-small
pass_on-requires-clause-small c = AreSmall-more 512000 (2 ^ 23) _ _ _ _ _ (omega arith) c.requires.small_second

pub pass_on-requires-then-pass_on-clause-small_upper : goal.pass_on-requires-then-pass_on-clause-small_upper
pass_on-requires-then-pass_on-clause-small_upper c =
    AreSmall-more 512000 838860 _ _ _ _ _ (omega arith) (c.pass_on.ensures.small 16384 102400 (omega arith) (omega arith) c.requires.small_first
    c.requires.small_second)

pub pass_on-requires-then-pass_on-clause-small : goal.pass_on-requires-then-pass_on-clause-small
pass_on-requires-then-pass_on-clause-small c = AreSmall-more 3200000 (2 ^ 23) _ _ _ _ _ (omega arith) c.requires.small_third

pub returns-then-pass_on-clause-small_second : goal.returns-then-pass_on-clause-small_second
returns-then-pass_on-clause-small_second c = c.pass_on.ensures.small 16384 102400 (omega arith) (omega arith) c.requires.small_first c.requires.small_second

pub returns-then-pass_on-clause-small_third : goal.returns-then-pass_on-clause-small_third
returns-then-pass_on-clause-small_third c =
    c.pass_on-then-pass_on.ensures.small 102400 640000 (omega arith) (omega arith) (returns-then-pass_on-clause-small_second c) c.requires.small_third

pub returns-else-pass_on-clause-small_second : goal.returns-else-pass_on-clause-small_second
returns-else-pass_on-clause-small_second c = c.pass_on.ensures.small 16384 102400 (omega arith) (omega arith) c.requires.small_first c.requires.small_second
