use Rattle.std.proofs.Common.{◌≡◌, ◌-◌}
use Rattle.item_defs.specs.Items.{text}
use Rattle.bit_pipe.specs.SinkState.{sink_state, IsOpen, Adds}
use Rattle.wave_defs.specs.Held.{blocks_in}
use Rattle.block_masks.specs.SegmentNumbers.{AreAbove}
use Rattle.segment_code.specs.CodedParts.{coded_planes}
use Rattle.segment_code.proofs.planes.put_planes.Given as goal

abbrev pub invariant-loop-n : goal.invariant-loop-n
invariant-loop-n g l = record {
  so_far : Adds g.O.OctetOut.sink (sink_state g.O.OctetOut.sink l.initial.out) (sink_state g.O.OctetOut.sink l.out)
      (text (coded_planes l.tables.book l.head (blocks_in l.fn.blocks.numbers) l.n));
  is_open : IsOpen (sink_state g.O.OctetOut.sink l.out);
  numbers : l.blocks.numbers ≡ l.fn.blocks.numbers;
  most : l.blocks.most ≡ l.fn.blocks.most;
  above : AreAbove (l.head.depth_ac - l.n) l.blocks;
}
