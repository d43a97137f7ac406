-- A begun text as a sink of octets. This project's own.
use Rattle.bit_pipe.specs.Sinks.{SinkOf}
use Rattle.port_122.specs.Outside.{Outside}
use Rattle.space_packets.specs.declared.sink.PacketSink.{PacketSink}
use Rattle.space_packets.specs.Progress.{given_octets}
use Rattle.space_packets.specs.Sink.{Gave, Broke}
use Rattle.space_packets.specs.SinkLaws.{gave_nothing, gave_both, broke_after}

-- It was given the octets of the begun text, and counts the port's faults of writing.
abbrev pub packet_sink : {X : Type 0} → (X → Outside) → SinkOf (PacketSink X)
packet_sink outside = record {
  counts = λ s. record {
    given = given_octets s.packets.now;
    faults = (outside s.port.now).write_faults;
  };
  Gave = Gave outside;
  Broke = Broke outside;
  gave_none = gave_nothing outside;
  gave_both = gave_both outside;
  broke_after = broke_after outside;
}
