-- The effect of octets of a begun text, as those of a sink. This project's own.
use Rattle.std.specs.Prelude.{ℕ, ◌≡◌, List}
use Rattle.port_122.specs.Outside.{Outside}
use Rattle.space_packets.specs.declared.sink.PacketSink.{PacketSink}
use Rattle.space_packets.specs.declared.stage.Text.{Text}
use Rattle.space_packets.specs.Progress.{IsOpen}
use Rattle.space_packets.specs.Writes.{Continues, StopsEarly}

-- The octets were put into the packets of the begun text, by the same packetiser and port. Nothing is stated if none is open.
pub record Gave {X : Type 0} (outside : X → Outside) (old new : PacketSink X) (octets : List ℕ) : Type 0 where
  pub packets : new.packets.ghost_name ≡ old.packets.ghost_name
  pub port : new.port.ghost_name ≡ old.port.ghost_name
  pub text : (t : Text) → IsOpen t old.packets.now → Continues t (outside old.port.now) (outside new.port.now) old.packets.now new.packets.now octets

-- a write failed while the octets were written
pub record Broke {X : Type 0} (outside : X → Outside) (old new : PacketSink X) (octets : List ℕ) : Type 0 where
  pub packets : new.packets.ghost_name ≡ old.packets.ghost_name
  pub port : new.port.ghost_name ≡ old.port.ghost_name
  pub text : (t : Text) → IsOpen t old.packets.now → StopsEarly t (outside old.port.now) (outside new.port.now) old.packets.now new.packets.now octets
