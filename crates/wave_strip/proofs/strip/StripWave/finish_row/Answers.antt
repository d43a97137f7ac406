use Rattle.std.proofs.Common.{arith}
use Rattle.std.proofs.lemmas.Grind.{common_steps}
use Rattle.wave_strip.proofs.ShownLaws.{shows}
use Rattle.wave_strip.proofs.strip.StripWave.finish_row.Goals as goal

pub returns-clause-shows : goal.returns-clause-shows
returns-clause-shows c = grind (arith, common_steps, shows)
