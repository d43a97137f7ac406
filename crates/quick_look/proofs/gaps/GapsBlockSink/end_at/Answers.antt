use Rattle.quick_look.proofs.Keeping.{ends}
use Rattle.quick_look.proofs.gaps.GapsBlockSink.end_at.Goals as goal

pub returns : goal.returns
returns c g n at later = ends c.args.self.now g c.args._geometry.now n at later
