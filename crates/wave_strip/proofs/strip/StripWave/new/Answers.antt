use Rattle.std.proofs.Common.{arith}
use Rattle.wave_strip.proofs.CountLemmas.{no_rows}
use Rattle.wave_strip.proofs.strip.StripWave.new.Goals as goal

pub invariant_of-result : goal.invariant_of-result
invariant_of-result c =
    let e1 = c.in_ok-first.ensures.half in
    let e2 = c.in_ok-second.ensures.half in
    let e3 = c.in_ok-third.ensures.half in
    let most = c.requires.most in
    record {
      levels = record {
        halves = omega arith;
        quarters = omega arith;
        most = omega arith;
        first_kept = c.in_ok-first.ensures.kept;
        second_kept = c.in_ok-second.ensures.kept;
        third_kept = c.in_ok-third.ensures.kept;
        first_small = c.in_ok-first.ensures.small 81920;
        second_small = c.in_ok-second.ensures.small 512000;
        third_small = c.in_ok-third.ensures.small 3200000;
      };
      counts = no_rows _ _ _ c.in_ok-first.ensures.taken c.in_ok-second.ensures.taken c.in_ok-third.ensures.taken;
    }
