use Rattle.std.proofs.Common.{flat_map}
use Rattle.item_defs.specs.Items.{text}
use Rattle.bit_pipe.specs.SinkState.{sink_state, IsOpen, Adds}
use Rattle.plane_defs.specs.Spans.{span}
use Rattle.plane_defs.specs.Planes.{gaggle_items}
use Rattle.plane_defs.specs.Marks.{depths_of}
use Rattle.block_masks.specs.Gaggles.{SameMarks, options_at}
use Rattle.plane_coder.specs.Views.{plane_in}
use Rattle.block_masks.proofs.Agreeing.{SomeAgree}
use Rattle.plane_coder.proofs.stages.put_gaggles.Given as goal

abbrev pub invariant-loop-g : goal.invariant-loop-g
invariant-loop-g g l = record {
  so_far : Adds g.O.OctetOut.sink (sink_state g.O.OctetOut.sink l.initial.out) (sink_state g.O.OctetOut.sink l.out)
      (text (flat_map (gaggle_items l.view.tables.now.book (options_at l.initial.marks) (plane_in l.view (depths_of l.initial.marks)) g.row.STAGE)
      (span 0 l.g)));
  is_open : IsOpen (sink_state g.O.OctetOut.sink l.out);
  same : SameMarks l.initial.marks l.marks;
  agree : SomeAgree (plane_in l.view (depths_of l.initial.marks)) g.row.STAGE l.marks l.g;
}
