-- The effect of octets that are written to a sink whose text was begun last.
use Rattle.std.proofs.lemmas.Bool.Decides.{nat_tests}
use Rattle.std.proofs.Common.{arith, ◌≡◌, ◌≤◌, ℕ, List, subst, sym}
use Rattle.port_122.specs.Outside.{Outside}
use Rattle.space_packets.specs.declared.sink.PacketSink.{PacketSink}
use Rattle.space_packets.specs.declared.stage.Text.{Text}
use Rattle.space_packets.specs.Progress.{Progress, IsOpen, begun}
use Rattle.space_packets.specs.Writes.{Continues, StopsEarly}
use Rattle.space_packets.specs.Sink.{Gave, Broke}
use Rattle.space_packets.proofs.WholeCalls.{begun_open}

-- they were written
pub sink_goes_on : {X : Type 0} (outside : X → Outside) (s u : PacketSink X) (v : Progress) (t : Text) (port : X) (octets : List ℕ) →
    s.packets.now ≡ begun v t → s.port.now ≡ port → 64 ≤ v.packet → Gave outside s u octets →
    Continues t (outside port) (outside u.port.now) (begun v t) u.packets.now octets
sink_goes_on outside s u v t port octets begins same least gave =
    let sent : Continues t (outside s.port.now) (outside u.port.now) s.packets.now u.packets.now octets =
    gave.text t (subst (λ w. IsOpen t w) (sym begins) (begun_open v t least)) in
    grind (arith, nat_tests)

-- a write failed among them
pub sink_breaks_off : {X : Type 0} (outside : X → Outside) (s u : PacketSink X) (v : Progress) (t : Text) (port : X) (octets : List ℕ) →
    s.packets.now ≡ begun v t → s.port.now ≡ port → 64 ≤ v.packet → Broke outside s u octets →
    StopsEarly t (outside port) (outside u.port.now) (begun v t) u.packets.now octets
sink_breaks_off outside s u v t port octets begins same least broke = grind (arith, nat_tests, begun_open)
