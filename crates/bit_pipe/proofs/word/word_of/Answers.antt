use Rattle.std.proofs.Common.{subst, arith}
use Rattle.std.proofs.lemmas.Nat.{be_bytes_8}
use Rattle.item_defs.specs.Bits.{AreOctets}
use Rattle.bit_pipe.proofs.WordOctets.{are_octets}
use Rattle.bit_pipe.proofs.WindowBits.{word_bits}
use Rattle.bit_pipe.proofs.word.word_of.Goals as goal

pub returns : goal.returns
returns c =
    let word = c.from_be_bytes.result in
    let same = be_bytes_8 c.args.next.now word c.told-next c.fits-next c.from_be_bytes.ensures in
    record {
      octets = subst AreOctets same (are_octets 8 word);
      bits = λ left le. word_bits c.args.octet c.from.result word c.args.next.now c.from.ensures (omega arith) (omega arith) same left;
    }
