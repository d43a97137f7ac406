use Rattle.std.proofs.Common.{map, take}
use Rattle.item_defs.specs.Items.{text}
use Rattle.bit_pipe.specs.SinkState.{sink_state, IsOpen, Adds}
use Rattle.number_defs.specs.DcPart.{dc_bit}
use Rattle.dc_depths.proofs.dc.put_plane.Given as goal

abbrev pub invariant-loop-dc : goal.invariant-loop-dc
invariant-loop-dc g l = record {
  is_open : IsOpen (sink_state g.O.OctetOut.sink l.out);
  so_far : Adds g.O.OctetOut.sink (sink_state g.O.OctetOut.sink l.initial.out) (sink_state g.O.OctetOut.sink l.out)
      (text (map (dc_bit l.plane) (take l.dc-index l.dcs)));
}
