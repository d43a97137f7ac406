use Rattle.bit_pipe.specs.SourceState.{source_state, IsIn}
use Rattle.dc_depths.proofs.DepthReads.{RawSoFar}
use Rattle.dc_depths.proofs.depths_in.take_raw.Given as goal

abbrev pub invariant-loop-place : goal.invariant-loop-place
invariant-loop-place g l = record {
  is_in : IsIn (source_state l.input);
  so_far : RawSoFar g.I.OctetIn.source l.place (source_state l.initial.input) (source_state l.input) l.marks;
}
