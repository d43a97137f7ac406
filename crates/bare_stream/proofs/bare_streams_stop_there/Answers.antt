use Rattle.bare_stream.proofs.StreamLaws.{streams_stop_there}
use Rattle.bare_stream.proofs.bare_streams_stop_there.Goals as goal

pub returns : goal.returns
returns c = streams_stop_there c.bare_heads_end_there.ensures c.texts_end_there.ensures
