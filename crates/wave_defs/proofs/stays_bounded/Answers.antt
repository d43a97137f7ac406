use Rattle.wave_defs.proofs.LevelWithin.{low_of-all_within, high_of-all_within, merged-within}
use Rattle.wave_defs.proofs.PyramidLaws.{pyramid-within, rebuilt-within}
use Rattle.wave_defs.proofs.BlockLaws.{place_of-is_place, coefficient-within}
use Rattle.wave_defs.proofs.stays_bounded.Goals as goal

pub returns : goal.returns
returns c = record {
  forward = record { low = low_of-all_within; high = high_of-all_within; bands = pyramid-within };
  blocks = record { place = place_of-is_place; weighted = coefficient-within };
  inverse = record { line = merged-within; image = rebuilt-within };
}
