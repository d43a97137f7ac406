use Rattle.std.proofs.Common.{refl}
use Rattle.bare_stream.proofs.InputSteps.{consumed}
use Rattle.bare_stream.proofs.input.PortInOctetIn.consume.Goals as goal

pub returns : goal.returns
returns g c = consumed g.X.Port.outside c.args.self.now _ c.args.count c.requires refl refl refl refl refl refl
