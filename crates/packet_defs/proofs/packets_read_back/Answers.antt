use Rattle.packet_defs.proofs.ReadBack.{reads_back}
use Rattle.packet_defs.proofs.packets_read_back.Goals as goal

pub returns : goal.returns
returns c = record { each = reads_back }
