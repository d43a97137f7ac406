use Rattle.std.proofs.Common.{◌≡◌, ℕ, ◌<◌, ◌^◌, ◌/◌, List, ℤ}
use Rattle.bit_pipe.specs.SourceState.{source_state}
use Rattle.plane_defs.specs.PlaneScript.{PlaneState}
use Rattle.plane_reader.specs.Takes.{AreIn}
use Rattle.plane_reader.specs.Held.{point}
use Rattle.plane_reader.specs.HeldTakes.{IsReading}
use Rattle.plane_reader.specs.Blocks.{terms_of}
use Rattle.plane_reader.specs.Gaggles.{AreDeep, AreAbove, HavePlane, HaveFamilies, KeepSlots, KeepStates, gaggle_script}
use Rattle.plane_reader.proofs.GaggleReads.{DeepLeft}
use Rattle.plane_reader.proofs.gaggles.take_blocks.Given as goal

abbrev pub invariant-loop-left : goal.invariant-loop-left
invariant-loop-left g l = record {
  reading : IsReading g.I.OctetIn.source (source_state l.input) l.reading;
  tables : l.reading.tables ≡ l.fn.reading.tables;
  keeps : KeepSlots l.of.plan.now.plane l.initial.cells l.cells;
  states : KeepStates l.initial.marks l.marks;
  small : l.left < 2 ^ l.of.blocks.count;
  left : (depths : List ℕ) (numbers : List (List ℤ)) (p : PlaneState) → AreDeep l.of.plan.now.plane depths l.of.blocks →
      AreAbove l.of.plan.now.plane l.initial.cells numbers → HavePlane l.of.plan.now.plane l.initial.cells numbers p → HaveFamilies l.initial.marks p →
      AreIn l.fn.reading.gaggle (p.options (l.of.blocks.first.block / 16)) →
      DeepLeft g.I.OctetIn.source (terms_of l.of.plan.now l.fn.reading.tables.now.words.book) g.row.STAGE depths numbers l.of.plan.now.plane
      (l.of.blocks.first.block / 16)
      l.of.blocks.first.block l.of.blocks.count p (gaggle_script (terms_of l.of.plan.now l.fn.reading.tables.now.words.book) g.row.STAGE depths numbers
      l.of.blocks.first.block l.of.blocks.count p)
      l.of.blocks.deep l.left l.reading.gaggle l.cells l.marks (point (source_state l.fn.input) l.fn.reading.cursor)
      (point (source_state l.input) l.reading.cursor);
}

abbrev pub decreases-loop-left : goal.decreases-loop-left
decreases-loop-left g l = l.left
