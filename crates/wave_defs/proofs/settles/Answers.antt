use Rattle.wave_defs.proofs.SettledLaws.{level-settled, pyramid-settled}
use Rattle.wave_defs.proofs.ForwardReach.{line-known, block-known, images-known}
use Rattle.wave_defs.proofs.BlockPlaces.{block-same}
use Rattle.wave_defs.proofs.settles.Goals as goal

pub returns : goal.returns
returns c = record {
  rows = record { of_level = level-settled; of_pyramid = pyramid-settled };
  blocks = record { line = line-known; weighted = block-same; block = block-known; images = images-known };
}
