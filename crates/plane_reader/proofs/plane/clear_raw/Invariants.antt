use Rattle.std.proofs.Common.{◌+◌, ◌*◌, min}
use Rattle.block_masks.specs.Slices.{IsColumn}
use Rattle.plane_reader.proofs.ClearStates.{RawClear}
use Rattle.plane_reader.proofs.plane.clear_raw.Given as goal

abbrev pub invariant-loop-g : goal.invariant-loop-g
invariant-loop-g l = RawClear (min (16 * l.g) l.count) l.initial.cells l.cells

abbrev pub invariant-loop-k : goal.invariant-loop-k
invariant-loop-k l = record { column : IsColumn l.cells l.first; cleared : RawClear (16 * l.g + l.k) l.fn.cells l.cells }
