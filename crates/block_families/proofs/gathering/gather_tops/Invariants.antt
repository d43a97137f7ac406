use Rattle.std.proofs.Common.{◌/◌, length}
use Rattle.block_families.specs.Gathering.{run_at, FillsEach}
use Rattle.block_families.proofs.gathering.gather_tops.Given as goal

abbrev pub invariant-loop-position : goal.invariant-loop-position
invariant-loop-position g l =
    FillsEach (run_at (g.B.BandSource.number l.bands) l.weights.shifts l.column) 0 l.position (length l.initial.into / 64) l.initial.into l.into
