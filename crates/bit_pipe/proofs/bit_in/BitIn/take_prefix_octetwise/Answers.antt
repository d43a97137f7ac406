use Rattle.std.proofs.Common.{arith, refl}
use Rattle.bit_pipe.proofs.PrefixTaking.{known_at_hand}
use Rattle.bit_pipe.proofs.bit_in.BitIn.take_prefix_octetwise.Goals as goal

pub returns : goal.returns
returns g c = λ most item reports.
    let b = c.args.self.now in
    known_at_hand reports b.input.now b.octet b.left b.used b.room _ b.within (omega (arith, b.whole)) c.hand.result _ _ _ c.hand.ensures c.from.ensures
    c.from-2.ensures refl (omega arith)
