-- What is known of the slices that octets are written to.
use Rattle.bit_pipe.specs.Sinks.{SinkOf}
use Rattle.bit_pipe.specs.Fills.{Filling, Fills, Overfills}
use Rattle.bit_pipe.specs.declared.slice_out.SliceOut.{SliceOut}
use Rattle.bit_pipe.specs.FillLaws.{fills_none, fills_both, overfills_after}

abbrev pub filling : SliceOut → Filling
filling s = record { name = s.into.ghost_name; slice = s.into.now; len = s.len; faults = s.faults }

-- it has all its octets, and a call fails exactly if it is full
abbrev pub slice_sink : SinkOf SliceOut
slice_sink = record {
  counts = λ s. record { given = s.len; faults = s.faults };
  Gave = λ s t octets. Fills (filling s) (filling t) octets;
  Broke = λ s t octets. Overfills (filling s) (filling t) octets;
  gave_none = λ s. fills_none (filling s);
  gave_both = λ s t u xs ys. fills_both (filling s) (filling t) (filling u) xs ys;
  broke_after = λ s t u xs ys. overfills_after (filling s) (filling t) (filling u) xs ys;
}
