-- The effect of the calls of a packetiser. This project's own.
use Rattle.std.specs.Prelude.{ℕ, ◌≡◌, ◌≤◌, ◌<◌, List, [], ◌∷◌, ◌++◌, length, take, Result, MatchResult}
use Rattle.port_122.specs.Outside.{Outside, Exchange, NoRead, Rose}
use Rattle.packet_defs.specs.Packets.{text_packets, joined}
use Rattle.space_packets.specs.declared.stage.PacketiserState.{PacketiserState}
use Rattle.space_packets.specs.declared.stage.PacketiserState.TheVariants.{Broken}
use Rattle.space_packets.specs.declared.stage.Text.{Text}
use Rattle.space_packets.specs.Progress.{Progress, IsOpen, full_count, full_packet, first_octets, written, after, broken, past_packet, stopped, ended}

-- a text was continued by these octets, and its full packets are written
pub record Continues (t : Text) (p q : Outside) (v w : Progress) (octets : List ℕ) : Type 0 where
  pub out : Exchange p q [] (written t v octets) [] NoRead
  pub valid : w ≡ after t v octets

-- A write failed while a text was continued by these octets: some of its full packets are written, and a prefix of the next.
pub record StopsEarly (t : Text) (p q : Outside) (v w : Progress) (octets : List ℕ) : Type 0 where
  pub count : ℕ
  pub few : count < full_count v octets
  pub some : ℕ
  pub out : Exchange p q [] (first_octets t v octets count ++ take some (full_packet t v octets count)) [] NoRead
  pub rose : Rose p.write_faults q.write_faults
  pub valid : w ≡ broken t v octets count

-- the effect of a call that gives an octet to the begun text
pub record PutsOctet {T E : Type 0} (result : Result T E) (p q : Outside) (v w : Progress) (octet : ℕ) : Type 0 where
  pub text : Text
  pub was_open : IsOpen text v
  pub ends : MatchResult result (λ _. Continues text p q v w (octet ∷ [])) (λ _. StopsEarly text p q v w (octet ∷ []))

-- one packet is written
pub record PacketOut (p q : Outside) (v w : Progress) (next : PacketiserState) (packet : List ℕ) : Type 0 where
  pub out : Exchange p q [] packet [] NoRead
  pub valid : w ≡ past_packet v next packet

-- a write of one packet failed, and a prefix of its octets is written
pub record PacketFailed (p q : Outside) (v w : Progress) (packet : List ℕ) : Type 0 where
  pub some : ℕ
  pub within : some ≤ length packet
  pub out : Exchange p q [] (take some packet) [] NoRead
  pub rose : Rose p.write_faults q.write_faults
  pub valid : w ≡ stopped v

-- the effect of a call that writes one packet
abbrev pub WritesPacket : {T E : Type 0} → Result T E → (p q : Outside) (v w : Progress) → PacketiserState → List ℕ → Type 0
WritesPacket result p q v w next packet = MatchResult result
    (λ _. PacketOut p q v w next packet)
    (λ _. PacketFailed p q v w packet)

-- a whole text, from its begin to its end, was written as its packets
pub record TextOut (t : Text) (p q : Outside) (v w : Progress) (text : List ℕ) : Type 0 where
  pub out : Exchange p q [] (joined (text_packets t.apid t.ancillary v.packet v.packets text)) [] NoRead
  pub valid : w ≡ ended v t text

-- a write failed while a text was written, and a prefix of its packets' octets is written
pub record TextCut (t : Text) (p q : Outside) (v w : Progress) (text : List ℕ) : Type 0 where
  pub some : ℕ
  pub within : some ≤ length (joined (text_packets t.apid t.ancillary v.packet v.packets text))
  pub out : Exchange p q [] (take some (joined (text_packets t.apid t.ancillary v.packet v.packets text))) [] NoRead
  pub rose : Rose p.write_faults q.write_faults
  pub broken : w.stage ≡ Broken
  pub packet : w.packet ≡ v.packet
