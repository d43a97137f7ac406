use Rattle.std.proofs.Common.{◌≡◌, ◌-◌, ◌*◌, ◌<◌, ℕ, length}
use Rattle.bit_pipe.specs.SourceState.{source_state, IsIn}
use Rattle.block_masks.specs.Slices.{numbers_in}
use Rattle.plane_defs.specs.Lows.{Given, planes_given}
use Rattle.plane_defs.specs.Marks.{depths_of}
use Rattle.plane_reader.specs.Above.{AreReady, AwaitDcs}
use Rattle.plane_reader.specs.Joined.{AreBelow}
use Rattle.plane_reader.specs.Planes.{stages_of}
use Rattle.plane_reader.specs.Restoring.{AwaitLows, IsReached}
use Rattle.plane_reader.proofs.LowsRead.{ReadTo}
use Rattle.wave_defs.specs.Held.{blocks_in}
use Rattle.plane_reader.proofs.planes.take_sent.Given as goal

abbrev pub invariant-loop-n : goal.invariant-loop-n
invariant-loop-n g l = record {
  is_in : IsIn (source_state l.input);
  ready : AreReady (l.sent.below - l.n) l.cells;
  dcs : AwaitDcs (l.sent.below - l.n) l.sent.q (blocks_in (numbers_in l.cells));
  below : AreBelow l.sent.below l.cells;
  depths : depths_of l.marks ≡ depths_of l.fn.marks;
  size : length l.cells ≡ length l.fn.cells;
  reached : 0 < l.n → (r : ℕ) → 64 * r < length l.cells → IsReached l.sent.q (l.sent.below - l.n) r l.cells;
  read : (h : Given) → h.numbers ≡ blocks_in (numbers_in l.fn.cells) → AwaitLows l.sent h →
      ReadTo g.I.OctetIn.source l.tables.words.book l.sent (depths_of l.fn.marks) l.n l.cells
      (planes_given l.tables.words.book l.sent.weights.shifts l.sent.q (depths_of l.fn.marks) (stages_of l.sent) l.sent.below h)
      (source_state l.fn.input) (source_state l.input);
}
