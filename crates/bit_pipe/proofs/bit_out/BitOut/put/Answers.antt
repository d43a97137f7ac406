use Rattle.std.proofs.Common.{◌∙◌, ap, arith, subst}
use Rattle.item_defs.specs.Bits.{bits_of}
use Rattle.bit_pipe.specs.SinkState.{sink_state, Puts}
use Rattle.bit_pipe.proofs.Putting.{puts_none}
use Rattle.bit_pipe.proofs.BitSteps.{bit_put}
use Rattle.bit_pipe.proofs.bit_out.BitOut.put.Goals as goal

pub returns-then-self-eq0 : goal.returns-then-self-eq0
returns-then-self-eq0 g c = puts_none g.O.OctetOut.sink _ _ c.requires c.if-self-eq0.true (omega arith)

pub returns : goal.returns
returns g c =
    let k = g.O.OctetOut.sink in
    let same = ap (bits_of 1) c.from.ensures ∙ bit_put c.args.bit in
    subst (λ r. Puts k c.put_fitting.result (sink_state k c.args.self.now) (sink_state k c.put_fitting.new.self) r) same c.put_fitting.ensures
