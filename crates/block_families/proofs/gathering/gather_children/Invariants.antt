use Rattle.std.proofs.Common.{◌*◌, ◌/◌, length}
use Rattle.block_families.specs.Gathering.{run_at, FillsEach}
use Rattle.block_families.proofs.gathering.gather_children.Given as goal

abbrev pub invariant-loop-family : goal.invariant-loop-family
invariant-loop-family g l =
    FillsEach (run_at (g.B.BandSource.number l.bands) l.weights.shifts l.column) 4 (4 * l.family) (length l.initial.into / 64) l.initial.into l.into
