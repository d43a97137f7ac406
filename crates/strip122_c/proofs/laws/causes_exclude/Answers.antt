use Rattle.strip122_c.proofs.Excluded.{one_kind}
use Rattle.strip122_c.proofs.laws.causes_exclude.Goals as goal

pub returns : goal.returns
returns c = record { one = one_kind c.received_is_known.ensures }
