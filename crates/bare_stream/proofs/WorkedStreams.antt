-- The octets that are worked out by hand are read so.
use Rattle.std.proofs.Common.{refl}
use Rattle.base_122.specs.Profile.{profile}
use Rattle.item_defs.specs.Bits.{bits_of, value_of, bits_of_octets}
use Rattle.wave_defs.specs.Blocks.{place_of}
use Rattle.number_defs.specs.Mapping.{unmapped}
use Rattle.plane_defs.specs.Spans.{span}
use Rattle.plane_defs.specs.Sets.{significant, coded, set_significant, live, type_due, refined}
use Rattle.plane_defs.specs.Codes.{symbol}
use Rattle.plane_defs.specs.Reading.{word_of}
use Rattle.segment_defs.specs.Fields.{number_in}
use Rattle.segment_defs.specs.Reading.{presence_tests, support_tests, depth_tests, value_tests, head_read}
use Rattle.segment_defs.specs.TextWish.{segment_read}
use Rattle.bare_text.specs.Agreement.{agreement_tests}
use Rattle.bare_text.specs.Reading.{bare_head_read, bare_head_in}
use Rattle.bare_stream.specs.StreamRead.{read_after}
use Rattle.bare_stream.specs.WorkedStreams.{WorkedStreams}

pub worked : WorkedStreams
unfolding read_after bare_head_in bare_head_read agreement_tests presence_tests support_tests depth_tests value_tests head_read profile span significant
    coded set_significant live type_due refined symbol word_of
    bits_of value_of bits_of_octets place_of unmapped number_in segment_read lib.Count.ones
worked = record {
  whole = refl;
  blocks = refl;
  full = refl;
  more = refl;
  more_octets = refl;
  cut = refl;
  many = refl;
  many_octets = refl;
  none = refl;
  missing = refl;
  missing_octets = refl;
  two = refl;
  two_full = refl;
  bad_option = refl;
  bad_option_octets = refl;
}
