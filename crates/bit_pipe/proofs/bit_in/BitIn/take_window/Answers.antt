use Rattle.std.proofs.Common.{refl}
use Rattle.bit_pipe.proofs.WindowBits.{window_taken, window_needs}
use Rattle.bit_pipe.proofs.bit_in.BitIn.take_window.Goals as goal

pub consume-requires : goal.consume-requires
consume-requires g c =
    let b = c.args.self.now in
    window_needs g.I.OctetIn.source b.input.now b.octet b.left b.used b.room _ b.within c.args.window c.args.count c.from.result c.requires.window
    c.requires.count c.from.ensures

pub returns : goal.returns
returns g c =
    let b = c.args.self.now in
    window_taken g.I.OctetIn.source b.input.now b.octet b.left b.used b.room _ b.within c.args.window c.args.count c.requires.window c.requires.count
    c.consume.new.self c.from.result _ c.from-2.result c.from-3.result c.from.ensures refl c.from-2.ensures c.from-3.ensures c.consume.ensures
