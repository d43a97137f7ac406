use Rattle.std.proofs.Common.{refl, sym, ◌∙◌, arith}
use Rattle.std.specs.Int.{w64, to_be_bytes}
use Rattle.item_defs.proofs.NumberBits.{length-bits_of}
use Rattle.bit_pipe.proofs.WordOctets.{octets_bits, are_octets, fills_word}
use Rattle.bit_pipe.proofs.slice_out.SliceOutOctetOut.put_word.Goals as goal

pub returns : goal.returns
returns c =
    let s = c.args.self.now in
    record {
      octets = to_be_bytes w64 c.args.word;
      small = are_octets 8 c.args.word;
      spell = sym (octets_bits 8 c.args.word);
      gave = fills_word s.into.ghost_name _ s.len s.faults _ c.args.word s.into.now _ refl (c.copy_from_slice.ensures.after ∙ c.to_be_bytes.ensures)
          (omega arith) (omega arith);
      given = omega (arith, length-bits_of 64 c.args.word);
      faults = omega arith;
    }
