use Rattle.std.proofs.Common.{◌∙◌, arith}
use Rattle.wave_strip.proofs.CountLemmas.{no_rows}
use Rattle.wave_strip.proofs.strip.StripWave.reset.Goals as goal

pub invariant_of-self : goal.invariant_of-self
invariant_of-self c =
    let l = c.args.self.now.levels in
    let halves = l.halves in
    let quarters = l.quarters in
    let most = l.most in
    record {
      levels = record {
        halves = omega (arith, c.reset.ensures.half, c.reset-2.ensures.half);
        quarters = omega (arith, c.reset-2.ensures.half, c.reset-3.ensures.half);
        most = omega (arith, c.reset-3.ensures.half);
        first_kept = c.reset.ensures.kept ∙ l.first_kept;
        second_kept = c.reset-2.ensures.kept ∙ l.second_kept;
        third_kept = c.reset-3.ensures.kept ∙ l.third_kept;
        first_small = c.reset.ensures.small 81920 l.first_small;
        second_small = c.reset-2.ensures.small 512000 l.second_small;
        third_small = c.reset-3.ensures.small 3200000 l.third_small;
      };
      counts = no_rows _ _ _ c.reset.ensures.taken c.reset-2.ensures.taken c.reset-3.ensures.taken;
    }
