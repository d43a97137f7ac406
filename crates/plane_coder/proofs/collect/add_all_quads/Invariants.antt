use Rattle.std.proofs.Common.{◌*◌, flat_map}
use Rattle.plane_defs.specs.Spans.{span}
use Rattle.plane_coder.specs.Listed.{Lists}
use Rattle.plane_coder.proofs.BlockSets.{of_family}
use Rattle.plane_coder.specs.Viewed.{block_in}
use Rattle.plane_coder.proofs.collect.add_all_quads.Given as goal

abbrev pub invariant-loop-i : goal.invariant-loop-i
invariant-loop-i l = record {
  lists : Lists l.initial.words l.words (flat_map (of_family (block_in l.plane_masks) l.plane_masks.plan.now.weights.shifts l.plane_masks.plan.now.plane)
      (span 0 l.i)) (5 * l.i);
}
