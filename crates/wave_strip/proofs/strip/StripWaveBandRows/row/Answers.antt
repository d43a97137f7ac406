use Rattle.std.proofs.Common.{ℕ, ◌+◌, ◌*◌, ◌<◌, pos, ap, subst, ◌∙◌, arith, get_or-take}
use Rattle.base_122.specs.declared.weights.Band.{Band}
use Rattle.base_122.specs.Weights.{band_place}
use Rattle.wave_defs.specs.Blocks.{block_side}
use Rattle.wave_strip.specs.Columns.{high_sample}
use Rattle.wave_strip.proofs.strip.StripWaveBandRows.row.Goals as goal

pub returns-in-Lh1-clause-numbers : goal.returns-in-Lh1-clause-numbers
returns-in-Lh1-clause-numbers c = λ j h.
    let s = c.args.self.now in
    let halves = s.levels.halves in
    let quarters = s.levels.quarters in
    let inside : j < 4 * s.third.half = subst (λ (b : Band). j < block_side (band_place b) * s.third.half) c.in-Lh1.is h in
    rw c.in-Lh1.is (get_or-take s.first.half c.high-in-Lh1.result.now j (pos 0) (omega arith) ∙ c.high-in-Lh1.ensures.samples j
    ∙ ap (λ (q : ℕ). high_sample s.first.columns (4 * q + c.args.row) j) c.block-block.ensures.value)
