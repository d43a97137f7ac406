-- A port as a sink of the octets of a text. (This project's own.)
use Rattle.bit_pipe.specs.Sinks.{SinkOf}
use Rattle.port_122.specs.Outside.{Outside}
use Rattle.bare_stream.specs.declared.sink.TextSink.{TextSink}
use Rattle.bare_stream.specs.Sink.{Gave, Broke}
use Rattle.bare_stream.specs.SinkLaws.{gave_none, gave_both, broke_after}

-- it counts the port's faults of writing
abbrev pub text_sink : {X : Type 0} → (X → Outside) → SinkOf (TextSink X)
text_sink outside = record {
  counts = λ s. record { given = s.given; faults = (outside s.port.now).write_faults };
  Gave = Gave outside;
  Broke = Broke outside;
  gave_none = gave_none outside;
  gave_both = gave_both outside;
  broke_after = broke_after outside;
}
