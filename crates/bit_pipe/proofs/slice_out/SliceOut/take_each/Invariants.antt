use Rattle.std.proofs.Common.{◌≡◌, ◌-◌, ◌/◌, ◌%◌, ◌^◌, ◌≤◌}
use Rattle.item_defs.specs.Bits.{bits_of}
use Rattle.bit_pipe.specs.Sinks.{GaveBits}
use Rattle.bit_pipe.specs.Slices.{slice_sink}
use Rattle.bit_pipe.proofs.slice_out.SliceOut.take_each.Given as goal

abbrev pub invariant-loop-left : goal.invariant-loop-left
invariant-loop-left l = record {
  within : l.left ≤ 64;
  last : l.left % 8 ≡ 64 % 8;
  so_far : GaveBits slice_sink l.initial.self l.self (bits_of (64 - l.left) (l.word / 2 ^ l.left));
}

abbrev pub decreases-loop-left : goal.decreases-loop-left
decreases-loop-left l = l.left
