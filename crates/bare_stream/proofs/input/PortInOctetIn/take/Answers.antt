use Rattle.std.proofs.Common.{rules}
use Rattle.bare_stream.proofs.InputSteps.{octet_given}
use Rattle.bare_stream.proofs.input.PortInOctetIn.take.Goals as goal

pub returns : goal.returns
returns g c = octet_given g.X.Port.outside c.args.self.now c.make_ready.new.self c.give.new.self c.give.result (search rules) c.give.ensures (search rules)
