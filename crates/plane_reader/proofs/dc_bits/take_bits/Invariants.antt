use Rattle.std.proofs.Common.{◌≡◌, ◌<◌, ◌+◌, ◌-◌, ◌*◌, ℕ, ℤ, pos, List, [], length, get_or, true}
use Rattle.bit_pipe.specs.SourceState.{source_state}
use Rattle.item_defs.specs.Scripts.{in_turn}
use Rattle.plane_defs.specs.PlaneScript.{nothing_yet}
use Rattle.plane_reader.specs.Above.{HasNoneBelow}
use Rattle.plane_reader.specs.Held.{point}
use Rattle.plane_reader.specs.HeldTakes.{IsReading}
use Rattle.plane_reader.specs.Gaggles.{HaveRead}
use Rattle.plane_reader.specs.Planes.{KeepOthers, dc_item}
use Rattle.plane_reader.proofs.DcReads.{DcsLeft}
use Rattle.plane_reader.proofs.dc_bits.take_bits.Given as goal

abbrev pub invariant-loop-r : goal.invariant-loop-r
invariant-loop-r g l = record {
  reading : IsReading g.I.OctetIn.source (source_state l.input) l.reading;
  keeps : KeepOthers l.initial.cells l.cells;
  left : (numbers : List (List ℤ)) (marks : List ℤ) → length l.initial.cells ≡ 64 * length numbers → ((r : ℕ) → r < length numbers →
      HasNoneBelow (l.plane + 1) (get_or (get_or numbers r []) 0 (pos 0))) →
      HaveRead l.plane l.initial.cells marks numbers nothing_yet →
      DcsLeft g.I.OctetIn.source l.plane l.r (length numbers - l.r) numbers marks (in_turn (dc_item true) 0 (length numbers) nothing_yet) l.cells (point
      (source_state l.fn.input) l.fn.reading.cursor) (point (source_state l.input) l.reading.cursor);
}
