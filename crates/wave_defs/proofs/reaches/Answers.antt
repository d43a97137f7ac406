use Rattle.wave_defs.proofs.ReachLaws.{line-reach, sample-reach, blocks-reach, rows-reach, columns-reach, row-reach, column-reach, block-reach, rising-reach}
use Rattle.wave_defs.proofs.reaches.Goals as goal

pub returns : goal.returns
returns c = record {
  line = record { sample = line-reach };
  blocks = record { sample = sample-reach; blocks = blocks-reach; rows = rows-reach; columns = columns-reach };
  one = record { row = row-reach; column = column-reach; block = block-reach };
  rising = record { sample = rising-reach };
}
