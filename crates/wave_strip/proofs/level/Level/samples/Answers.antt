use Rattle.std.proofs.Common.{arith}
use Rattle.std.proofs.lemmas.Grind.{common_steps}
use Rattle.wave_strip.proofs.SampleLemmas.{room_in-wide}
use Rattle.wave_strip.proofs.level.Level.samples.Goals as goal

pub returns-clause-value : goal.returns-clause-value
returns-clause-value c = grind (arith, common_steps, room_in-wide)
