-- The worked texts that are restored, by computing.
use Rattle.std.proofs.Common.{refl}
use Rattle.base_122.specs.Profile.{profile}
use Rattle.item_defs.specs.Bits.{bits_of, value_of}
use Rattle.wave_defs.specs.Blocks.{place_of}
use Rattle.plane_defs.specs.Spans.{span}
use Rattle.plane_defs.specs.Sets.{significant, coded, set_significant, live, type_due, refined}
use Rattle.plane_defs.specs.Codes.{symbol}
use Rattle.plane_defs.specs.Reading.{word_of}
use Rattle.plane_defs.specs.WorkedLows.{WorkedLows}

pub worked_lows : WorkedLows
unfolding profile span significant coded set_significant live type_due refined symbol word_of bits_of value_of place_of lib.Count.ones
worked_lows = record {
  dcs = refl;
  negative_dcs = refl;
  acs = refl;
  negative_acs = refl;
  steps = refl;
  after_stage_1 = refl;
  before_sign = refl;
  in_refinement = refl;
  after_plane_1 = refl;
  all = refl;
  in_dc_bits = refl;
  below_weight = refl;
}
