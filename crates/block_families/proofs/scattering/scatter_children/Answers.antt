use Rattle.std.proofs.Common.{◌+◌, ◌*◌, ◌∙◌, arith}
use Rattle.block_families.proofs.PutBack.{puts_on}
use Rattle.block_families.proofs.scattering.scatter_children.Goals as goal

pub loop-square-preserved : goal.loop-square-preserved
loop-square-preserved g c =
    let i = c.loop-square.square in
    let invariant = c.loop-square.invariant in
    let put = c.put_square.ensures in
    record {
      columns = put.columns ∙ invariant.columns;
      valid = put.valid ∙ invariant.valid;
      keeps = g.met.B.BandSink.keeps_on _ _ _ invariant.keeps put.keeps;
      puts = puts_on c.args.weights.now.shifts c.args.column c.args.from.now 4 (4 * i) 4 (4 + 4 * i) (4 * (i + 1)) _ _ _ (omega arith) (omega arith)
          (omega (arith, c.loop-square-test.true))
          invariant.puts put.scattered;
    }
