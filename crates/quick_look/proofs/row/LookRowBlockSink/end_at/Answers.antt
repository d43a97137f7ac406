use Rattle.quick_look.proofs.RowTakes.{row_ends}
use Rattle.quick_look.proofs.row.LookRowBlockSink.end_at.Goals as goal

pub returns : goal.returns
returns c g n at ends = row_ends c.args.self.now c.args._geometry.now g n at ends
