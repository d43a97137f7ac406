use Rattle.std.proofs.Common.{◌/◌, length, ap, ◌∙◌, arith}
use Rattle.block_families.specs.Gathering.{run_at}
use Rattle.block_families.proofs.Filling.{each_on, each_all}
use Rattle.block_families.proofs.gathering.gather_run.Goals as goal

pub returns : goal.returns
returns g c =
    let value = run_at (g.B.BandSource.number c.args.bands.now) c.args.weights.now.shifts c.args.column in
    let n = length c.args.into.now / 64 in
    let tops = c.gather_tops.ensures in
    let children = c.gather_children.ensures in
    let lower = each_on value 0 4 12 4 16 n _ _ _ _ (omega arith) (omega arith) (omega arith) (ap (λ m. m / 64) tops.whole) tops children in
    let whole = each_on value 0 16 48 16 64 n _ _ _ _ (omega arith) (omega arith) (omega arith) (ap (λ m. m / 64) (children.whole ∙ tops.whole)) lower
    c.gather_grandchildren.ensures in
    each_all value n _ _ (omega arith) whole
