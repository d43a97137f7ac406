use Rattle.std.proofs.Common.{ℕ, ◌≡◌, ◌<◌, ◌*◌, ◌^◌, Bool}
use Rattle.block_masks.specs.Masks.{Shows}
use Rattle.bit_pipe.specs.SourceState.{source_state}
use Rattle.item_defs.specs.Scripts.{in_turn}
use Rattle.plane_defs.specs.States.{State}
use Rattle.plane_defs.specs.WordScripts.{group_script}
use Rattle.plane_reader.specs.Takes.{IsState, Marks}
use Rattle.plane_reader.specs.Held.{point}
use Rattle.plane_reader.specs.HeldTakes.{IsReading}
use Rattle.plane_reader.proofs.HeldGroups.{GroupsLeft}
use Rattle.plane_reader.proofs.groups.take_groups.Given as goal

abbrev pub invariant-loop-left : goal.invariant-loop-left
invariant-loop-left g l = record {
  reading : IsReading g.I.OctetIn.source (source_state l.input) l.reading;
  tables : l.reading.tables ≡ l.fn.reading.tables;
  raw : l.reading.found.raw ≡ l.fn.reading.found.raw;
  small : l.left < 2 ^ l.groups.count;
  passed : (s : State) (f now wanted : ℕ → Bool) → IsState l.fn.reading.gaggle l.fn.reading.found s → Marks l.due f l.groups.first (4 * l.groups.count) →
      Shows l.groups.now now 0 l.groups.count → Shows l.groups.wanted wanted 0 l.groups.count →
      GroupsLeft g.I.OctetIn.source (in_turn (group_script l.fn.reading.tables.now.words.book f l.groups.first now wanted) 0 l.groups.count s)
      (group_script l.fn.reading.tables.now.words.book f l.groups.first now wanted) l.groups.count l.sent l.left l.reading.gaggle l.reading.found
      (point (source_state l.fn.input) l.fn.reading.cursor) (point (source_state l.input) l.reading.cursor);
}

abbrev pub decreases-loop-left : goal.decreases-loop-left
decreases-loop-left g l = l.left
