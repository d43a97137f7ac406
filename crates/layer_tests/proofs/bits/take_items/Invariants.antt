use Rattle.bit_pipe.specs.SourceState.{source_state, IsIn}
use Rattle.layer_tests.proofs.bits.take_items.Given as goal

abbrev pub invariant-loop-place : goal.invariant-loop-place
invariant-loop-place l = IsIn (source_state l.input)
