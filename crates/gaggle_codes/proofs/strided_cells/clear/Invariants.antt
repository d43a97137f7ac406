use Rattle.gaggle_codes.proofs.Setting.{Clears}
use Rattle.gaggle_codes.proofs.strided_cells.clear.Given as goal

abbrev pub invariant-loop-place : goal.invariant-loop-place
invariant-loop-place l = Clears l.strided.stride l.place l.initial.cells l.cells
