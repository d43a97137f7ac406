use Rattle.std.proofs.Common.{◌≡◌, ℕ, ◌<◌, ◌^◌, Bool, List, ℤ}
use Rattle.bit_pipe.specs.SourceState.{source_state}
use Rattle.block_masks.specs.Masks.{Shows}
use Rattle.item_defs.specs.Scripts.{in_turn}
use Rattle.plane_defs.specs.States.{State}
use Rattle.plane_reader.specs.Takes.{IsState}
use Rattle.plane_reader.specs.Held.{point}
use Rattle.plane_reader.specs.HeldTakes.{IsReading}
use Rattle.plane_reader.specs.Blocks.{terms_of, IsAbove}
use Rattle.plane_reader.specs.Grandchildren.{sixteen_script}
use Rattle.plane_reader.proofs.HeldGroups.{GroupsLeft}
use Rattle.plane_reader.proofs.grandchildren.take_sixteens.Given as goal

abbrev pub invariant-loop-left : goal.invariant-loop-left
invariant-loop-left g l = record {
  reading : IsReading g.I.OctetIn.source (source_state l.input) l.reading;
  tables : l.reading.tables ≡ l.fn.reading.tables;
  raw : l.reading.found.raw ≡ l.fn.reading.found.raw;
  small : l.left < 2 ^ 3;
  passed : (block : List ℤ) (s : State) (now new : ℕ → Bool) → IsState l.fn.reading.gaggle l.fn.reading.found s → IsAbove l.above block l.plan.plane →
      Shows l.sets.now now 0 3 → Shows l.sets.new new 0 3 →
      GroupsLeft g.I.OctetIn.source (in_turn (sixteen_script (terms_of l.plan l.fn.reading.tables.now.words.book) block now new) 0 3 s) (sixteen_script
      (terms_of l.plan l.fn.reading.tables.now.words.book) block now new) 3 l.sent l.left l.reading.gaggle l.reading.found
      (point (source_state l.fn.input) l.fn.reading.cursor) (point (source_state l.input) l.reading.cursor);
}

abbrev pub decreases-loop-left : goal.decreases-loop-left
decreases-loop-left g l = l.left
