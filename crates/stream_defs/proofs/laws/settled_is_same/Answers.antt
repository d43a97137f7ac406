use Rattle.stream_defs.proofs.SettledLaws.{settled_same}
use Rattle.stream_defs.proofs.laws.settled_is_same.Goals as goal

pub returns : goal.returns
returns c = record { same = λ reported_last s k xs ys range size agree. settled_same reported_last s range k xs ys size agree }
