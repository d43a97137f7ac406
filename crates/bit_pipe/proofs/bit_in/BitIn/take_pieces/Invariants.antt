use Rattle.std.proofs.Common.{◌-◌, ◌<◌, ◌≤◌, ◌^◌}
use Rattle.item_defs.specs.Bits.{bits_of}
use Rattle.bit_pipe.specs.SourceState.{source_state, IsIn, Takes}
use Rattle.bit_pipe.proofs.bit_in.BitIn.take_pieces.Given as goal

abbrev pub invariant-loop-taken : goal.invariant-loop-taken
invariant-loop-taken g l = record {
  within : l.taken ≤ l.count;
  is_in : IsIn (source_state l.self);
  small : l.value < 2 ^ l.taken;
  so_far : Takes g.I.OctetIn.source (source_state l.initial.self) (source_state l.self) (bits_of l.taken l.value);
}

abbrev pub decreases-loop-taken : goal.decreases-loop-taken
decreases-loop-taken g l = l.count - l.taken
