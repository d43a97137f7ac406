use Rattle.std.proofs.Common.{arith}
use Rattle.block_families.proofs.place.top_band.Goals as goal
use Rattle.wave_defs.proofs.Equations.{place_of-is}

pub returns-then-position-eq0 : goal.returns-then-position-eq0
returns-then-position-eq0 c = rw place_of-is (grind arith)

pub returns : goal.returns
returns c = rw place_of-is (grind arith)
