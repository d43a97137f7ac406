use Rattle.std.proofs.Common.{◌≡◌, ◌+◌, ◌*◌, ◌/◌, length, ap, arith}
use Rattle.block_families.specs.Gathering.{run_at}
use Rattle.block_families.proofs.Filling.{each_on}
use Rattle.block_families.proofs.gathering.gather_children.Goals as goal

pub loop-family-preserved : goal.loop-family-preserved
loop-family-preserved g c =
    let done = c.loop-family.family in
    let n = length c.args.into.now / 64 in
    let so_far = c.loop-family.invariant in
    let same : length c.loop-family.into / 64 ≡ n = ap (λ m. m / 64) so_far.whole in
    each_on (run_at (g.B.BandSource.number c.args.bands.now) c.args.weights.now.shifts c.args.column) 4 (4 * done) 4 (4 + 4 * done) (4 * (done + 1)) n _ _ _ _
    (omega arith) (omega arith) (omega (arith, c.loop-family-test.true)) same so_far c.put_children.ensures
