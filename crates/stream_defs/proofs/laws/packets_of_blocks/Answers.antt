use Rattle.stream_defs.proofs.WholeStreams.{same_packets}
use Rattle.stream_defs.proofs.laws.packets_of_blocks.Goals as goal

pub returns : goal.returns
returns c = record { same = same_packets }
