use Rattle.std.proofs.Common.{◌≡◌, ◌<◌, ◌+◌, ◌^◌, ℕ, Bool}
use Rattle.block_masks.specs.Masks.{Shows}
use Rattle.bit_pipe.specs.SourceState.{source_state}
use Rattle.item_defs.specs.Scripts.{in_turn}
use Rattle.plane_defs.specs.States.{State}
use Rattle.plane_reader.specs.Takes.{IsState}
use Rattle.plane_reader.specs.Held.{point}
use Rattle.plane_reader.specs.HeldTakes.{IsReading, marked_script}
use Rattle.plane_reader.proofs.HeldGroups.{GroupsLeft}
use Rattle.plane_reader.proofs.refine.take_bits.Given as goal

abbrev pub invariant-loop-left : goal.invariant-loop-left
invariant-loop-left g l = record {
  reading : IsReading g.I.OctetIn.source (source_state l.input) l.reading;
  tables : l.reading.tables ≡ l.fn.reading.tables;
  small : l.left < 2 ^ 32;
  passed : (s : State) (f : ℕ → Bool) → IsState l.fn.reading.gaggle l.fn.reading.found s → Shows l.here f l.start 32 →
      GroupsLeft g.I.OctetIn.source (in_turn (λ j. marked_script f (l.start + j)) 0 32 s) (λ j. marked_script f
      (l.start + j)) 32 l.here l.left l.reading.gaggle l.reading.found (point (source_state l.fn.input) l.fn.reading.cursor) (point
      (source_state l.input) l.reading.cursor);
}

abbrev pub decreases-loop-left : goal.decreases-loop-left
decreases-loop-left g l = l.left
