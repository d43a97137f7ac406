use Rattle.std.proofs.Common.{flat_map}
use Rattle.bit_pipe.specs.SinkState.{sink_state}
use Rattle.plane_defs.specs.Spans.{span}
use Rattle.plane_coder.specs.Listed.{entries_at}
use Rattle.plane_coder.proofs.Waiting.{Waits}
use Rattle.plane_coder.proofs.put.put_words.Given as goal

abbrev pub invariant-loop-i : goal.invariant-loop-i
invariant-loop-i g l = record {
  waits : Waits g.O.OctetOut.sink l.option_codes.tables.now.book l.initial.pending.gaggle l.pending (sink_state g.O.OctetOut.sink l.initial.out)
      (sink_state g.O.OctetOut.sink l.out)
      (flat_map (entries_at l.words.list) (span 0 l.i));
}
