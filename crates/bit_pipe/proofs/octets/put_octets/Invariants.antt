use Rattle.std.proofs.Common.{◌≡◌, ◌-◌, ◌/◌, ◌%◌, ◌^◌, ◌≤◌}
use Rattle.item_defs.specs.Bits.{bits_of}
use Rattle.bit_pipe.specs.Sinks.{GaveBits}
use Rattle.bit_pipe.proofs.octets.put_octets.Given as goal

abbrev pub invariant-loop-left : goal.invariant-loop-left
invariant-loop-left g l = record {
  within : l.left ≤ l.count;
  last : l.left % 8 ≡ l.count % 8;
  so_far : GaveBits g.O.OctetOut.sink l.initial.out l.out (bits_of (l.count - l.left) (l.bits / 2 ^ l.left));
}

abbrev pub decreases-loop-left : goal.decreases-loop-left
decreases-loop-left g l = l.left
