-- The effect of a whole text. This project's own.
use Rattle.std.specs.Prelude.{ℕ, ◌≡◌, ◌≤◌, ◌<◌, List, ◌++◌, length}
use Rattle.port_122.specs.Outside.{Outside}
use Rattle.space_packets.specs.declared.stage.PacketiserState.TheVariants.{Idle}
use Rattle.space_packets.specs.declared.stage.Text.{Text}
use Rattle.space_packets.specs.Parts.{text_at}
use Rattle.space_packets.specs.Progress.{Progress, begun, full_count, last_packet}
use Rattle.space_packets.specs.Writes.{Continues, StopsEarly, PacketOut, PacketFailed, TextOut, TextCut}

-- a packetiser at v begins this text, which isn't empty
pub record Begins (v : Progress) (t : Text) (text : List ℕ) : Type 0 where
  pub packet : 64 ≤ v.packet
  pub part : t.ancillary.part ≡ 0
  pub some : 0 < length text

-- the last packet of a text, once its octets were given
abbrev pub closing : Progress → Text → List ℕ → Progress → List ℕ
closing v t text w = last_packet (text_at t (full_count (begun v t) text)) w

-- begin, the octets of a text, and close; or a failure among the octets, or at close
pub record TextsGoWhole : Type 0 where
  pub out : (p q r : Outside) (v w u : Progress) (t : Text) (text : List ℕ) → Begins v t text →
      Continues t p q (begun v t) w text → PacketOut q r w u Idle (closing v t text w) → TextOut t p r v u text
  pub cut : (p q : Outside) (v w : Progress) (t : Text) (octets more : List ℕ) → Begins v t (octets ++ more) →
      StopsEarly t p q (begun v t) w octets → TextCut t p q v w (octets ++ more)
  pub cut_at_close : (p q r : Outside) (v w u : Progress) (t : Text) (text : List ℕ) → Begins v t text →
      Continues t p q (begun v t) w text → PacketFailed q r w u (closing v t text w) → TextCut t p r v u text
