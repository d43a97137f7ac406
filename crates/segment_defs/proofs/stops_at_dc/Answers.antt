use Rattle.segment_defs.proofs.Stopped.{coded_at_dc}
use Rattle.segment_defs.proofs.stops_at_dc.Goals as goal

pub returns : goal.returns
returns c = record { bits = coded_at_dc }
