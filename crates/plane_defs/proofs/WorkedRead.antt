-- The worked texts, by computing.
use Rattle.std.proofs.Common.{refl}
use Rattle.base_122.specs.Profile.{profile}
use Rattle.item_defs.specs.Bits.{bits_of, value_of}
use Rattle.wave_defs.specs.Blocks.{place_of}
use Rattle.plane_defs.specs.Spans.{span}
use Rattle.plane_defs.specs.Sets.{significant, coded, set_significant, live, type_due, refined}
use Rattle.plane_defs.specs.Codes.{symbol}
use Rattle.plane_defs.specs.Reading.{word_of}
use Rattle.plane_defs.specs.Worked.{WorkedTexts}

pub worked : WorkedTexts
unfolding profile span significant coded set_significant live type_due refined symbol word_of bits_of value_of place_of lib.Count.ones
worked = record {
  all = refl;
  cut_anywhere = refl;
  cut_at_a_sign = refl;
  no_option = refl;
  no_family = refl;
  false_1 = refl;
  false_2 = refl;
  false_3 = refl;
  false_4 = refl;
  false_5 = refl;
  false_6 = refl;
  two_blocks = refl;
}
