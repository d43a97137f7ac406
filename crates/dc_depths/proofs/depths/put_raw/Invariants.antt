use Rattle.std.proofs.Common.{map, take}
use Rattle.item_defs.specs.Items.{raw, text}
use Rattle.bit_pipe.specs.SinkState.{sink_state, IsOpen, Adds}
use Rattle.dc_depths.specs.Marks.{depths_of}
use Rattle.dc_depths.proofs.depths.put_raw.Given as goal

abbrev pub invariant-loop-mark : goal.invariant-loop-mark
invariant-loop-mark g l = record {
  is_open : IsOpen (sink_state g.O.OctetOut.sink l.out);
  so_far : Adds g.O.OctetOut.sink (sink_state g.O.OctetOut.sink l.initial.out) (sink_state g.O.OctetOut.sink l.out)
      (text (map raw (take l.mark-index (depths_of l.marks))));
}
