use Rattle.std.proofs.Common.{◌*◌, ◌-◌}
use Rattle.base_122.specs.declared.book.Book.{Book}
use Rattle.plane_coder.specs.Refining.{refining}
use Rattle.plane_coder.specs.Appends.{Appends}
use Rattle.plane_coder.specs.Viewed.{block_in}
use Rattle.plane_coder.proofs.pushes.push_refinement.Given as goal

abbrev pub invariant-loop-k : goal.invariant-loop-k
invariant-loop-k l = record {
  says : (book : Book) → Appends book l.initial.pending l.pending (refining (block_in l.plane_masks) l.plane_masks.plan.now.weights.shifts
      l.plane_masks.plan.now.plane (4 * l.from) (4 * (l.k - l.from))) (4 * (l.k - l.from));
}
