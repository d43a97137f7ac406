use Rattle.bit_pipe.specs.SinkState.{sink_state, IsOpen, Adds}
use Rattle.gaggle_codes.specs.Written.{heights_of}
use Rattle.gaggle_codes.specs.GaggleBits.{bits_before, chosen_names}
use Rattle.gaggle_codes.proofs.put.put_values.Given as goal

abbrev pub invariant-loop-gaggle : goal.invariant-loop-gaggle
invariant-loop-gaggle g l = record {
  is_open : IsOpen (sink_state g.O.OctetOut.sink l.out);
  so_far : Adds g.O.OctetOut.sink (sink_state g.O.OctetOut.sink l.initial.out) (sink_state g.O.OctetOut.sink l.out)
      (bits_before l.numbers.range.signed l.numbers.range.bits (heights_of l.numbers)
      (chosen_names l.select l.numbers.range.bits (heights_of l.numbers)) l.gaggle);
}
