use Rattle.bare_stream.proofs.GivenBack.{round_trip}
use Rattle.bare_stream.proofs.bare_round_trip.Goals as goal

pub returns : goal.returns
returns c = round_trip c.images_are_bare_streams.ensures c.bare_streams_are_read.ensures
