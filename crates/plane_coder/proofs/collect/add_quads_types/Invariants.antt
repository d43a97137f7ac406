use Rattle.std.proofs.Common.{◌*◌, flat_map}
use Rattle.plane_defs.specs.Spans.{span}
use Rattle.plane_coder.specs.Listed.{Lists}
use Rattle.plane_coder.proofs.BlockSets.{of_quad}
use Rattle.plane_coder.specs.Viewed.{block_in}
use Rattle.plane_coder.proofs.collect.add_quads_types.Given as goal

abbrev pub invariant-loop-j : goal.invariant-loop-j
invariant-loop-j l = record {
  lists : Lists l.initial.words l.words (flat_map (of_quad (block_in l.plane_masks) l.plane_masks.plan.now.weights.shifts l.plane_masks.plan.now.plane l.i)
      (span 0 l.j)) (1 * l.j);
}
