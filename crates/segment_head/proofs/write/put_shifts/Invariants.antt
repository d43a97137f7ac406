use Rattle.std.proofs.Common.{map, take}
use Rattle.item_defs.specs.Items.{text}
use Rattle.bit_pipe.specs.SinkState.{sink_state, IsOpen, Adds}
use Rattle.segment_defs.specs.Head.{field}
use Rattle.segment_head.proofs.PuttingFields.{item_of}
use Rattle.segment_head.proofs.write.put_shifts.Given as goal

abbrev pub invariant-loop-shift : goal.invariant-loop-shift
invariant-loop-shift g l = record {
  is_open : IsOpen (sink_state g.O.OctetOut.sink l.out);
  so_far : Adds g.O.OctetOut.sink (sink_state g.O.OctetOut.sink l.initial.out) (sink_state g.O.OctetOut.sink l.out)
      (text (map (λ shift. item_of (field 2 shift)) (take l.shift-index l.shifts)));
}
