use Rattle.wave_defs.proofs.Mirror.{high_of-mirrored}
use Rattle.wave_defs.proofs.mirrors.Goals as goal

pub returns : goal.returns
returns c = record { high = high_of-mirrored }
