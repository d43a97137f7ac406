use Rattle.std.proofs.Common.{◌*◌, ◌/◌, length}
use Rattle.block_families.specs.Gathering.{run_at, FillsEach}
use Rattle.block_families.proofs.gathering.gather_grandchildren.Given as goal

abbrev pub invariant-loop-half : goal.invariant-loop-half
invariant-loop-half g l =
    FillsEach (run_at (g.B.BandSource.number l.bands) l.weights.shifts l.column) 16 (8 * l.half) (length l.initial.into / 64) l.initial.into l.into
