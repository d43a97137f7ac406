use Rattle.std.proofs.Common.{arith}
use Rattle.plane_coder.proofs.Costing.{long_of_four, long_of_others}
use Rattle.plane_coder.proofs.tables.long_cost.Goals as goal

pub returns-then-word-ne4 : goal.returns-then-word-ne4
returns-then-word-ne4 c book codes packed = long_of_others book c.args.rows.now c.args.word codes packed (λ e. omega (arith, e, c.if-word-ne4.true))

pub returns : goal.returns
returns c book codes packed =
    omega (
      arith,
      long_of_four book c.args.rows.now c.args.word codes packed (omega (arith, c.if-word-ne4.false)),
      c.bits_in.ensures.bits,
      c.bits_in-2.ensures.bits,
      c.bits_in-3.ensures.bits,
      c.bits_in-4.ensures.bits,
    )
