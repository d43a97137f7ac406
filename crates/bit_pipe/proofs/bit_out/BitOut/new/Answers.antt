use Rattle.std.proofs.Common.{arith}
use Rattle.bit_pipe.proofs.BitSteps.{begins, opens, bounded}
use Rattle.bit_pipe.specs.Bounds.{bound_of}
use Rattle.bit_pipe.proofs.bit_out.BitOut.new.Goals as goal

pub returns-clause-begins : goal.returns-clause-begins
returns-clause-begins g c =
    let e = c.octets_within-bound.ensures in
    rw e (begins g.O.OctetOut.sink c.args.out.now (bound_of c.args.limit) _ c.args.out.ghost_name)

pub returns-clause-is_open : goal.returns-clause-is_open
returns-clause-is_open g c =
    let e = c.octets_within-bound.ensures in
    opens g.O.OctetOut.sink c.args.out.now 0 0 c.octets_within-bound.result _ c.args.out.ghost_name (omega (arith, e, c.requires.before, c.requires.bound))
    (bounded c.octets_within-bound.result c.args.limit e c.requires.limit) (omega arith)
