use Rattle.plane_reader.proofs.SignReads.{takes_flag}
use Rattle.plane_reader.proofs.word.take_flag.Goals as goal

pub returns-clause-flag : goal.returns-clause-flag
returns-clause-flag g c = takes_flag c.in_ok-take.field-0 c.in_ok-take.ensures.ends
