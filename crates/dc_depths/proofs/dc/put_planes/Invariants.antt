use Rattle.std.proofs.Common.{◌≤◌, ◌-◌}
use Rattle.item_defs.specs.Items.{text}
use Rattle.bit_pipe.specs.SinkState.{sink_state, IsOpen, Adds}
use Rattle.number_defs.specs.DcPart.{dc_q, planes_before}
use Rattle.dc_depths.proofs.dc.put_planes.Given as goal

abbrev pub invariant-loop-plane : goal.invariant-loop-plane
invariant-loop-plane g l = record {
  within : l.plane ≤ dc_q l.plan.depth_dc l.plan.depth_ac l.plan.shift;
  more : dc_q l.plan.depth_dc l.plan.depth_ac l.plan.shift - l.plane ≤ dc_q l.plan.depth_dc l.plan.depth_ac l.plan.shift - l.last;
  is_open : IsOpen (sink_state g.O.OctetOut.sink l.out);
  so_far : Adds g.O.OctetOut.sink (sink_state g.O.OctetOut.sink l.initial.out) (sink_state g.O.OctetOut.sink l.out)
      (text (planes_before (dc_q l.plan.depth_dc l.plan.depth_ac l.plan.shift) l.dcs (dc_q l.plan.depth_dc l.plan.depth_ac l.plan.shift - l.plane)));
}

abbrev pub decreases-loop-plane : goal.decreases-loop-plane
decreases-loop-plane g l = l.plane
