use Rattle.quick_look.proofs.LowBands.{low_is}
use Rattle.quick_look.proofs.laws.look_is_low.Goals as goal

pub returns : goal.returns
returns c = record { at = low_is }
