use Rattle.std.proofs.Common.{◌-◌, ◌≤◌, false}
use Rattle.item_defs.specs.Bits.{copies}
use Rattle.bit_pipe.specs.SinkState.{sink_state, IsOpen, Adds}
use Rattle.bit_pipe.proofs.bit_out.BitOut.put_zeros.Given as goal

abbrev pub invariant-loop-left : goal.invariant-loop-left
invariant-loop-left g l = record {
  within : l.left ≤ l.count;
  is_open : IsOpen (sink_state g.O.OctetOut.sink l.self);
  so_far : Adds g.O.OctetOut.sink (sink_state g.O.OctetOut.sink l.initial.self) (sink_state g.O.OctetOut.sink l.self) (copies (l.count - l.left) false);
}

abbrev pub decreases-loop-left : goal.decreases-loop-left
decreases-loop-left g l = l.left
