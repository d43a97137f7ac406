-- The worked answers, by computing.
use Rattle.std.proofs.Common.{refl}
use Rattle.base_122.specs.Profile.{profile}
use Rattle.item_defs.specs.Bits.{bits_of, value_of, bits_of_octets}
use Rattle.wave_defs.specs.Blocks.{place_of}
use Rattle.number_defs.specs.Mapping.{unmapped}
use Rattle.plane_defs.specs.Spans.{span}
use Rattle.plane_defs.specs.Sets.{significant, coded, set_significant, live, type_due, refined}
use Rattle.plane_defs.specs.Codes.{symbol}
use Rattle.plane_defs.specs.Reading.{word_of}
use Rattle.segment_defs.specs.Fields.{number_in}
use Rattle.segment_defs.specs.TextWish.{segment_read}
use Rattle.segment_code.specs.Worked.{WorkedAnswers}

pub worked : WorkedAnswers
unfolding profile span significant coded set_significant live type_due refined symbol word_of bits_of value_of bits_of_octets place_of
    unmapped number_in segment_read lib.Count.ones
worked = record {
  all = refl;
  more = refl;
  short = refl;
  false = refl;
  not_yet = refl;
  no_option = refl;
  cut_in_plane = refl;
  cut_below_limit = refl;
}
