use Rattle.std.proofs.Common.{◌≡◌, ◌+◌, ◌*◌, ◌/◌, length, ap, arith}
use Rattle.block_families.specs.Gathering.{run_at}
use Rattle.block_families.proofs.Filling.{each_on}
use Rattle.block_families.proofs.gathering.gather_grandchildren.Goals as goal

pub loop-half-preserved : goal.loop-half-preserved
loop-half-preserved g c =
    let done = c.loop-half.half in
    let n = length c.args.into.now / 64 in
    let so_far = c.loop-half.invariant in
    let same : length c.loop-half.into / 64 ≡ n = ap (λ m. m / 64) so_far.whole in
    each_on (run_at (g.B.BandSource.number c.args.bands.now) c.args.weights.now.shifts c.args.column) 16 (8 * done) 8 (16 + 8 * done) (8 * (done + 1)) n _ _ _ _
    (omega arith) (omega arith) (omega (arith, c.loop-half-test.true)) same so_far c.put_grandchildren.ensures
