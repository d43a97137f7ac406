use Rattle.std.proofs.Common.{◌+◌, ◌*◌, ◌∙◌, arith}
use Rattle.block_families.proofs.PutBack.{puts_on}
use Rattle.block_families.proofs.scattering.scatter_grandchildren.Goals as goal

pub loop-family-preserved : goal.loop-family-preserved
loop-family-preserved g c =
    let i = c.loop-family.family in
    let invariant = c.loop-family.invariant in
    let put = c.put_family.ensures in
    record {
      columns = put.columns ∙ invariant.columns;
      valid = put.valid ∙ invariant.valid;
      keeps = g.met.B.BandSink.keeps_on _ _ _ invariant.keeps put.keeps;
      puts = puts_on c.args.weights.now.shifts c.args.column c.args.from.now 16 (16 * i) 16 (16 + 16 * i) (16 * (i + 1)) _ _ _ (omega arith) (omega arith)
          (omega (arith, c.loop-family-test.true))
          invariant.puts put.scattered;
    }
