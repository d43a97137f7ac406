use Rattle.std.proofs.Common.{◌+◌, ◌*◌, min}
use Rattle.block_masks.specs.Slices.{IsColumn, Settles}
use Rattle.block_masks.proofs.slices.settle_above.Given as goal

abbrev pub invariant-loop-g : goal.invariant-loop-g
invariant-loop-g l = Settles l.plane (min (16 * l.g) l.count) l.initial.cells l.cells

abbrev pub invariant-loop-k : goal.invariant-loop-k
invariant-loop-k l = record {
  column : IsColumn l.cells l.first;
  settled : Settles l.plane (16 * l.g + l.k) l.fn.cells l.cells;
}
