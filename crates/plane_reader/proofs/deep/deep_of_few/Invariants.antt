use Rattle.std.proofs.Common.{nat_lt, get_or}
use Rattle.plane_defs.specs.Marks.{depths_of}
use Rattle.block_masks.specs.Masks.{Shows}
use Rattle.plane_reader.proofs.deep.deep_of_few.Given as goal

abbrev pub invariant-loop-k : goal.invariant-loop-k
invariant-loop-k l = Shows l.deep (λ r. nat_lt l.plane (get_or (depths_of l.marks) r 0)) l.first l.k
