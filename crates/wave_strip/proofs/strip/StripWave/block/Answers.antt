use Rattle.std.proofs.Common.{arith}
use Rattle.std.proofs.lemmas.Grind.{common_steps}
use Rattle.wave_strip.proofs.CountLemmas.{reached}
use Rattle.wave_strip.proofs.strip.StripWave.block.Goals as goal

pub returns-clause-reached : goal.returns-clause-reached
returns-clause-reached c = grind (arith, common_steps, reached)
