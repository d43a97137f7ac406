use Rattle.std.proofs.Common.{arith}
use Rattle.plane_coder.proofs.Costing.{short_of_two, short_of_three, short_of_others}
use Rattle.plane_coder.proofs.tables.short_cost.Goals as goal

pub returns-in-2 : goal.returns-in-2
returns-in-2 c book codes packed =
    omega (arith, short_of_two book c.args.rows.now c.args.word codes packed (omega arith), c.bits_in.ensures.bits, c.bits_in-in-2.ensures.bits)

pub returns-in-3 : goal.returns-in-3
returns-in-3 c book codes packed =
    omega (
      arith,
      short_of_three book c.args.rows.now c.args.word codes packed (omega arith),
      c.bits_in-in-3.ensures.bits,
      c.bits_in-in-3-2.ensures.bits,
      c.bits_in-in-3-3.ensures.bits,
    )

pub returns-in_default : goal.returns-in_default
returns-in_default c book codes packed = short_of_others book c.args.rows.now c.args.word codes packed (omega arith) (omega arith)
