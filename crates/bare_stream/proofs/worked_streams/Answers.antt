use Rattle.bare_stream.proofs.WorkedStreams.{worked}
use Rattle.bare_stream.proofs.worked_streams.Goals as goal

pub returns : goal.returns
returns c = worked
