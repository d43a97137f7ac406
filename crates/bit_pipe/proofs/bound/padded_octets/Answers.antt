use Rattle.bit_pipe.proofs.Ending.{filled_up, rounded_up}
use Rattle.bit_pipe.proofs.bound.padded_octets.Goals as goal

pub returns-then-fill : goal.returns-then-fill
returns-then-fill c = filled_up c.args.word c.args.bound c.args.used c.args.fill c.if-fill.true c.requires.within

pub returns : goal.returns
returns c = rounded_up c.args.word c.args.bound c.args.used c.args.fill c.div_ceil.result c.from.result c.from-2.result c.if-fill.false c.requires.word
    c.from.ensures c.from-2.ensures c.div_ceil.ensures
