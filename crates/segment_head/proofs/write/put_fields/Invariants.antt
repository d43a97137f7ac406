use Rattle.std.proofs.Common.{map, take}
use Rattle.item_defs.specs.Items.{text}
use Rattle.bit_pipe.specs.SinkState.{sink_state, IsOpen, Adds}
use Rattle.segment_head.specs.Writing.{said}
use Rattle.segment_head.proofs.PuttingFields.{item_of}
use Rattle.segment_head.proofs.write.put_fields.Given as goal

abbrev pub invariant-loop-field : goal.invariant-loop-field
invariant-loop-field g l = record {
  is_open : IsOpen (sink_state g.O.OctetOut.sink l.out);
  so_far : Adds g.O.OctetOut.sink (sink_state g.O.OctetOut.sink l.initial.out) (sink_state g.O.OctetOut.sink l.out)
      (text (map (λ f. item_of (said f)) (take l.field-index l.fields)));
}
