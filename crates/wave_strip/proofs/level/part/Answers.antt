use Rattle.std.proofs.Common.{arith}
use Rattle.wave_strip.proofs.LevelLemmas.{Agrees-parted}
use Rattle.wave_strip.proofs.level.part.Goals as goal

pub returns : goal.returns
returns c =
    Agrees-parted c.args.half _ _ c.forward_row.new.low c.forward_row.new.high (omega arith) (omega arith) c.forward_row.ensures.low c.forward_row.ensures.high
