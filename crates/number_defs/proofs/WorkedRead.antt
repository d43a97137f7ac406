-- The worked texts, by computing.
use Rattle.std.proofs.Common.{refl}
use Rattle.item_defs.specs.Bits.{bits_of, value_of}
use Rattle.number_defs.specs.Mapping.{unmapped}
use Rattle.number_defs.specs.Worked.{WorkedTexts}

pub worked : WorkedTexts
unfolding bits_of value_of unmapped
worked = record {
  depths = refl;
  depths_cut = refl;
  depth_above = refl;
  zeros_above = refl;
  depths_uncoded = refl;
  depths_split = refl;
  depths_split_cut = refl;
  no_option = refl;
  depths_raw = refl;
  depths_none = refl;
  dcs = refl;
  dcs_cut_in_plane = refl;
  dcs_cut_before_plane = refl;
  dcs_cut_in_number = refl;
  dcs_raw = refl;
}
