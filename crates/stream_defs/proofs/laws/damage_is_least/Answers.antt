use Rattle.stream_defs.proofs.DamageLaws.{whole_damage}
use Rattle.stream_defs.proofs.laws.damage_is_least.Goals as goal

pub returns : goal.returns
returns c = record { covers = λ rows missing. (whole_damage rows missing).0; lie_apart = λ rows missing. (whole_damage rows missing).1 }
