use Rattle.std.proofs.Common.{◌*◌, false}
use Rattle.item_defs.specs.Bits.{copies}
use Rattle.bit_pipe.specs.Sinks.{GaveBits}
use Rattle.bit_pipe.proofs.octets.put_zero_octets.Given as goal

abbrev pub invariant-loop : goal.invariant-loop
invariant-loop g l = GaveBits g.O.OctetOut.sink l.initial.out l.out (copies (8 * l.counter) false)
