use Rattle.std.proofs.Common.{◌≡◌, ◌<◌, ◌^◌}
use Rattle.bit_pipe.specs.SourceState.{source_state, IsIn}
use Rattle.block_masks.specs.Masks.{Shows}
use Rattle.plane_defs.specs.States.{State}
use Rattle.plane_defs.specs.WordScripts.{signs_script}
use Rattle.plane_reader.specs.Takes.{positions}
use Rattle.plane_reader.proofs.SignLoop.{SignsLeft}
use Rattle.plane_reader.proofs.signs.take_signs_singly.Given as goal

abbrev pub invariant-loop-left : goal.invariant-loop-left
invariant-loop-left g l = record {
  is_in : IsIn (source_state l.input);
  small : l.left < 2 ^ l.count;
  bits : l.found.bits ≡ l.initial.found.bits;
  raw : l.found.raw ≡ l.initial.found.raw;
  so_far : (s : State) → Shows l.initial.found.minus s.minus 0 64 → SignsLeft g.I.OctetIn.source (signs_script (positions l.new l.start l.count) s)
      (positions l.left l.start l.count) s l.found.minus (source_state l.initial.input) (source_state l.input);
}

abbrev pub decreases-loop-left : goal.decreases-loop-left
decreases-loop-left g l = l.left
