-- What worked DC parts give, by computing.
use Rattle.std.proofs.Common.{refl}
use Rattle.item_defs.specs.Bits.{bits_of, value_of}
use Rattle.number_defs.specs.Mapping.{unmapped}
use Rattle.number_defs.specs.WorkedLows.{WorkedLows}

pub worked_lows : WorkedLows
unfolding bits_of value_of unmapped
worked_lows = record {
  all = refl;
  cut_in_plane = refl;
  cut_before_plane = refl;
  cut_in_number = refl;
  cut_in_raw = refl;
}
