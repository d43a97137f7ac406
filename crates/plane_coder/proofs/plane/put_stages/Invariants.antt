use Rattle.std.proofs.Common.{flat_map}
use Rattle.item_defs.specs.Items.{text}
use Rattle.bit_pipe.specs.SinkState.{sink_state, IsOpen, Adds}
use Rattle.plane_defs.specs.Spans.{span}
use Rattle.plane_defs.specs.Planes.{stage_items}
use Rattle.plane_defs.specs.Marks.{depths_of}
use Rattle.block_masks.specs.Gaggles.{AreKnown, SameMarks, options_at, AllAgree}
use Rattle.plane_coder.specs.Views.{plane_in}
use Rattle.plane_coder.proofs.plane.put_stages.Given as goal

abbrev pub invariant-loop-number : goal.invariant-loop-number
invariant-loop-number g l = record {
  so_far : Adds g.O.OctetOut.sink (sink_state g.O.OctetOut.sink l.initial.out) (sink_state g.O.OctetOut.sink l.out)
      (text (flat_map (stage_items l.view.tables.now.book (options_at l.initial.marks) (plane_in l.view (depths_of l.initial.marks))) (span 0 l.number)));
  is_open : IsOpen (sink_state g.O.OctetOut.sink l.out);
  same : SameMarks l.initial.marks l.marks;
  agree : AllAgree (plane_in l.view (depths_of l.initial.marks)) l.number l.marks;
  known : AreKnown l.marks;
}
