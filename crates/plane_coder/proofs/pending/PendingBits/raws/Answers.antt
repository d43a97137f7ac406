use Rattle.std.proofs.Common.{◌/◌, ◌%◌, arith}
use Rattle.item_defs.specs.Bits.{bits_of}
use Rattle.plane_coder.proofs.Appending.{appends_raws, load_pushed}
use Rattle.plane_coder.proofs.pending.PendingBits.raws.Goals as goal

pub returns-clause-raws : goal.returns-clause-raws
returns-clause-raws c book =
    let more = load_pushed c.args.self.now c.push.new.self (c.args.raws / 16) c.push.ensures.count c.push.ensures.gaggle in
    appends_raws book c.args.self.now c.push.new.self (bits_of (c.args.raws / 16) (c.args.raws % 16)) 4 c.push.ensures.said c.push.ensures.gaggle
    (omega (arith, more, c.requires.packed.length))
