use Rattle.std.proofs.Common.{take, flat_map}
use Rattle.item_defs.specs.Bits.{bits_of}
use Rattle.bit_pipe.specs.SinkState.{sink_state, IsOpen, Adds}
use Rattle.gaggle_codes.proofs.values.put_uncoded.Given as goal

abbrev pub invariant-loop-value : goal.invariant-loop-value
invariant-loop-value g l = record {
  is_open : IsOpen (sink_state g.O.OctetOut.sink l.out);
  so_far : Adds g.O.OctetOut.sink (sink_state g.O.OctetOut.sink l.initial.out) (sink_state g.O.OctetOut.sink l.out)
      (flat_map (bits_of l.bits) (take l.value-index l.values));
}
