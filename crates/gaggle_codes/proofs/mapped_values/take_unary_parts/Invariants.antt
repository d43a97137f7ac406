use Rattle.std.proofs.Common.{◌≡◌, ◌<◌, ◌-◌, ◌^◌, ℕ, List, [], length, take, slice_index}
use Rattle.bit_pipe.specs.SourceState.{source_state, IsIn}
use Rattle.bit_pipe.proofs.ScriptReading.{Leaves}
use Rattle.number_defs.specs.NumberScript.{zeros_script}
use Rattle.gaggle_codes.proofs.mapped_values.take_unary_parts.Given as goal

abbrev pub invariant-loop-place : goal.invariant-loop-place
invariant-loop-place g l = record {
  is_in : IsIn (source_state l.input);
  few : (j : ℕ) → slice_index l.zeros j < 2 ^ (l.bits - l.k);
  same : length l.zeros ≡ length l.fn.zeros;
  left : (given : List ℕ) → Leaves g.I.OctetIn.source (zeros_script given l.bits l.k (length l.fn.zeros) [])
      (zeros_script given l.bits l.k (length l.zeros - l.place) (take l.place l.zeros)) (source_state l.fn.input) (source_state l.input);
}
