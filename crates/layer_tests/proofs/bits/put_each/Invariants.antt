use Rattle.std.proofs.Common.{◌≡◌}
use Rattle.bit_pipe.specs.Slices.{slice_sink}
use Rattle.bit_pipe.specs.SinkState.{sink_state, IsOpen}
use Rattle.layer_tests.proofs.bits.put_each.Given as goal

abbrev pub invariant-loop-place : goal.invariant-loop-place
invariant-loop-place l = record {
  is_open : IsOpen (sink_state slice_sink l.out);
  bound : (sink_state slice_sink l.out).bound ≡ (sink_state slice_sink l.initial.out).bound;
}
