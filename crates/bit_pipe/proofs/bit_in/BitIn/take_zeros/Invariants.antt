use Rattle.std.proofs.Common.{false}
use Rattle.item_defs.specs.Bits.{copies}
use Rattle.bit_pipe.specs.SourceState.{source_state, IsIn, Takes}
use Rattle.bit_pipe.proofs.bit_in.BitIn.take_zeros.Given as goal

abbrev pub invariant-loop-zeros : goal.invariant-loop-zeros
invariant-loop-zeros g l = record {
  is_in : IsIn (source_state l.self);
  so_far : Takes g.I.OctetIn.source (source_state l.initial.self) (source_state l.self) (copies l.zeros false);
}
