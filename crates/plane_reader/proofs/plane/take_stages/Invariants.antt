use Rattle.std.proofs.Common.{◌≡◌, ◌+◌, ◌-◌}
use Rattle.bit_pipe.specs.SourceState.{source_state, IsIn}
use Rattle.block_masks.specs.Gaggles.{AreKnown}
use Rattle.block_masks.specs.Slices.{numbers_in}
use Rattle.plane_defs.specs.Marks.{depths_of}
use Rattle.plane_defs.specs.PlaneScript.{plane_script}
use Rattle.plane_reader.specs.Blocks.{terms_of}
use Rattle.plane_reader.specs.Planes.{KeepPlanes}
use Rattle.plane_reader.proofs.StageReads.{StagesLeft}
use Rattle.wave_defs.specs.Held.{blocks_in}
use Rattle.plane_reader.proofs.plane.take_stages.Given as goal

abbrev pub invariant-loop-number : goal.invariant-loop-number
invariant-loop-number g l = record {
  is_in : IsIn (source_state l.input);
  known : AreKnown l.marks;
  keeps : KeepPlanes l.terms.plan.now.plane l.fn.cells l.cells;
  depths : depths_of l.marks ≡ depths_of l.fn.marks;
  left : StagesLeft g.I.OctetIn.source (terms_of l.terms.plan.now l.terms.tables.now.words.book) l.terms.plan.now.plane l.number (l.last + 1 - l.number)
      (depths_of l.fn.marks) (blocks_in (numbers_in l.fn.cells))
      (plane_script (terms_of l.terms.plan.now l.terms.tables.now.words.book) (depths_of l.fn.marks) (blocks_in (numbers_in
      l.fn.cells)) (l.last + 1)) l.cells l.marks (source_state l.fn.input) (source_state l.input);
}
