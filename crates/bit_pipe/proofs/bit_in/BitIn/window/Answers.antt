use Rattle.std.proofs.Common.{arith, subst}
use Rattle.std.specs.Array.{IsFirstChunk}
use Rattle.bit_pipe.proofs.WindowBits.{window_made}
use Rattle.bit_pipe.proofs.bit_in.BitIn.window.Goals as goal

pub returns : goal.returns
returns g c =
    let b = c.args.self.now in
    let eight = c.in_ok-next.next.now in
    let first = subst (λ xs. IsFirstChunk xs eight 8) c.buffer.ensures c.in_ok-next.ensures.cases in
    window_made g.I.OctetIn.source b.input.now b.octet b.left b.used b.room _ b.within c.word_of.result eight (omega arith) first c.word_of.ensures.octets
    (c.word_of.ensures.bits b.left (omega arith))
