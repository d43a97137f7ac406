use Rattle.std.proofs.Common.{◌≡◌, ◌-◌, ◌*◌, ℤ, List, length}
use Rattle.bit_pipe.specs.SourceState.{source_state, IsIn}
use Rattle.block_masks.specs.Gaggles.{AreKnown}
use Rattle.plane_defs.specs.Marks.{depths_of}
use Rattle.plane_defs.specs.PlaneScript.{PlaneState, blocks_script}
use Rattle.plane_reader.specs.Blocks.{terms_of}
use Rattle.plane_reader.specs.Gaggles.{AreAbove, HaveRead, KeepSlots, block_script}
use Rattle.plane_reader.proofs.StageReads.{GagglesLeft}
use Rattle.plane_reader.proofs.plane.take_gaggles.Given as goal

abbrev pub invariant-loop-g : goal.invariant-loop-g
invariant-loop-g g l = record {
  is_in : IsIn (source_state l.input);
  known : AreKnown l.marks;
  keeps : KeepSlots l.terms.plan.now.plane l.initial.cells l.cells;
  depths : depths_of l.marks ≡ depths_of l.initial.marks;
  left : (numbers : List (List ℤ)) (p : PlaneState) → AreAbove l.terms.plan.now.plane l.initial.cells numbers →
      HaveRead l.terms.plan.now.plane l.initial.cells l.initial.marks numbers p →
      GagglesLeft g.I.OctetIn.source l.terms.plan.now.plane (16 * l.g) (length l.initial.marks - 16 * l.g) numbers (blocks_script
      (terms_of l.terms.plan.now l.terms.tables.now.words.book) (depths_of l.initial.marks) numbers g.row.STAGE p)
      (block_script (terms_of l.terms.plan.now l.terms.tables.now.words.book) g.row.STAGE (depths_of l.initial.marks) numbers) l.cells l.marks
      (source_state l.initial.input) (source_state l.input);
}
