use Rattle.std.proofs.Common.{◌≤◌, ◌-◌}
use Rattle.bit_pipe.specs.SinkState.{sink_state, IsOpen, Adds}
use Rattle.plane_coder.specs.Kept.{bits_between}
use Rattle.plane_coder.proofs.kept.put_kept.Given as goal

abbrev pub invariant-loop-m : goal.invariant-loop-m
invariant-loop-m g l = record {
  so_far : Adds g.O.OctetOut.sink (sink_state g.O.OctetOut.sink l.initial.out) (sink_state g.O.OctetOut.sink l.out)
      (bits_between l.kept.free.now l.kept.from l.m);
  is_open : IsOpen (sink_state g.O.OctetOut.sink l.out);
  order : l.kept.from ≤ l.m;
  most : l.m - l.kept.from ≤ l.kept.to - l.kept.from;
}
