use Rattle.std.proofs.Common.{◌^◌, ◌∙◌}
use Rattle.wave_defs.proofs.PassLemmas.{AllWithin-whole}
use Rattle.wave_plain.proofs.samples.Samples.narrowed.Goals as goal

pub narrow-requires-clause-bounded : goal.narrow-requires-clause-bounded
narrow-requires-clause-bounded c =
    AllWithin-whole (2 ^ 24) c.args.plane.now.rows c.args.plane.now.width _ _ _ (c.deref.ensures.len ∙ c.requires.whole) c.deref.ensures.value
    c.requires.bounded
