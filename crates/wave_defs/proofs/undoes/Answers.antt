use Rattle.wave_defs.proofs.LineLaws.{merged_of-forward, low_of-of_merged, high_of-of_merged}
use Rattle.wave_defs.proofs.LevelLaws.{joined-level, level-joined}
use Rattle.wave_defs.proofs.PyramidLaws.{rebuilt-pyramid, pyramid-rebuilt}
use Rattle.wave_defs.proofs.undoes.Goals as goal

pub returns : goal.returns
returns c = record {
  line = record { back = merged_of-forward; low_again = low_of-of_merged; high_again = high_of-of_merged };
  level = record { back = joined-level; again = level-joined };
  pyramid = record { back = rebuilt-pyramid; again = pyramid-rebuilt };
}
