use Rattle.item_defs.proofs.NumberBits.{value_of-bits_of, bits_of-value_of, bits_of-split}
use Rattle.item_defs.proofs.OctetBits.{octets_of-bits_of_octets, bits_of_octets-octets_of}
use Rattle.item_defs.proofs.bits_undo.Goals as goal

pub returns : goal.returns
returns c = record {
  number = value_of-bits_of;
  bits = bits_of-value_of;
  parts = bits_of-split;
  octets = octets_of-bits_of_octets;
  octet_bits = bits_of_octets-octets_of;
}
