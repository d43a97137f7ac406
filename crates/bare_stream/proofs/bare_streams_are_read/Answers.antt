use Rattle.bare_stream.proofs.StreamLaws.{streams_are_read}
use Rattle.bare_stream.proofs.bare_streams_are_read.Goals as goal

pub returns : goal.returns
returns c = streams_are_read
