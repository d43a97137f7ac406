-- The state of a packetiser after a text, whole or not, for the texts after a reset. This project's own.
use Rattle.std.specs.Prelude.{ℕ, ◌≡◌, List}
use Rattle.port_122.specs.Outside.{Outside}
use Rattle.space_packets.specs.declared.stage.Text.{Text}
use Rattle.space_packets.specs.Progress.{Progress, fresh}
use Rattle.space_packets.specs.Writes.{Continues, StopsEarly, PacketFailed, TextOut, TextCut}

-- the most octets of a packet's data field are unchanged, so a reset leaves the state that it would have left before
pub record ServesAs (v w : Progress) : Type 0 where
  pub packet : w.packet ≡ v.packet
  pub again : fresh w.packet ≡ fresh v.packet

-- this holds after a whole text, after one that was cut, and after each call for it
pub record ServesAgain : Type 0 where
  pub out : (t : Text) (p q : Outside) (v w : Progress) (text : List ℕ) → TextOut t p q v w text → ServesAs v w
  pub cut : (t : Text) (p q : Outside) (v w : Progress) (text : List ℕ) → TextCut t p q v w text → ServesAs v w
  pub goes_on : (t : Text) (p q : Outside) (v w : Progress) (octets : List ℕ) → Continues t p q v w octets → ServesAs v w
  pub breaks_off : (t : Text) (p q : Outside) (v w : Progress) (octets : List ℕ) → StopsEarly t p q v w octets → ServesAs v w
  pub failed : (p q : Outside) (v w : Progress) (packet : List ℕ) → PacketFailed p q v w packet → ServesAs v w
