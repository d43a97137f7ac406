use Rattle.std.proofs.Common.{◌≡◌, ◌*◌, Ok, flat_map}
use Rattle.bit_pipe.specs.SinkState.{sink_state, IsOpen}
use Rattle.plane_defs.specs.Entries.{stage_number}
use Rattle.plane_defs.specs.Spans.{span}
use Rattle.plane_defs.specs.Planes.{of_block}
use Rattle.plane_defs.specs.Marks.{depths_of}
use Rattle.plane_coder.specs.Spells.{Spells}
use Rattle.plane_coder.specs.Views.{plane_in}
use Rattle.plane_coder.proofs.stages.put_blocks.Given as goal

abbrev pub invariant-loop-place : goal.invariant-loop-place
invariant-loop-place g l = record {
  so_far : Spells g.O.OctetOut.sink l.view.tables.now.book l.initial.pending.gaggle l.pending.gaggle (Ok tt) (sink_state g.O.OctetOut.sink l.initial.out)
      (sink_state g.O.OctetOut.sink l.out)
      (flat_map (of_block (plane_in l.view (depths_of l.marks)) (stage_number g.row.STAGE)) (span (16 * l.g) l.place));
  is_open : IsOpen (sink_state g.O.OctetOut.sink l.out);
  silent : l.pending.count ≡ 0;
}
