-- The progress of a reader of packets, and what it decides. This project's own.
use Rattle.std.specs.Prelude.{ℕ, ◌+◌, ◌-◌, ◌==◌, ◌||◌, Bool, false, if◌then◌else◌, List, [], ◌∷◌, ◌++◌, length, Option, None, Some, Result, Ok, Err, is_none}
use Rattle.bit_pipe.specs.declared.fault.InFault.{InFault}
use Rattle.bit_pipe.specs.declared.fault.InFault.TheVariants.{LongInput}
use Rattle.packet_defs.specs.declared.packet.Framing.{Framing}
use Rattle.packet_defs.specs.declared.packet.PacketRead.{PacketRead}
use Rattle.packet_defs.specs.declared.packet.PacketRead.TheVariants.{Ended, Fault}
use Rattle.packet_defs.specs.declared.packet.Framing.TheVariants.{BadVersion}
use Rattle.packet_defs.specs.Tests.{when, first_of}
use Rattle.packet_defs.specs.Reading.{text_in, skip_of, packet_read}
use Rattle.packet_defs.specs.Streams.{has_bad_version, begins_packet, first_packet, after_packet, framing_at}

-- The number of octets that may be taken and of those that were; those among them that are in no packet returned yet; the text of the
-- packet returned last, if it is one of the image's; and whether the end was reached.
pub record Intake : Type 0 where
  pub cap : ℕ
  pub taken : ℕ
  pub pending : List ℕ
  pub text : List ℕ
  pub ended : Bool

-- nothing was taken yet
abbrev pub unread : (cap : ℕ) → Intake
unread cap = record { cap = cap; taken = 0; pending = []; text = []; ended = false }

-- the place at which the octets that wait begin among all that were taken
abbrev pub place_of : Intake → ℕ
place_of v = v.taken - length v.pending

-- the octets that wait, the end or the cap decide what is next
unfoldable pub is_decided : Intake → Bool
is_decided v = has_bad_version v.pending || (begins_packet v.pending || (v.ended || (v.taken == v.cap)))

-- the end, or why there is none
abbrev pub end_read : Option Framing → PacketRead
end_read None = Ended
end_read (Some fault) = Fault fault

-- what is next, if that is decided: the first of these
unfoldable pub verdict : (apid : ℕ) → Intake → Option (Result PacketRead InFault)
verdict apid v = first_of (
    when (has_bad_version v.pending) (Ok (Fault (BadVersion (place_of v))))
    ∷ when (begins_packet v.pending) (Ok (packet_read apid (first_packet v.pending)))
    ∷ when v.ended (Ok (end_read (framing_at (place_of v) v.pending)))
    ∷ when (v.taken == v.cap) (Err LongInput)
    ∷ []
    )

-- the text of a packet of the image
abbrev pub text_mine : (apid : ℕ) → List ℕ → List ℕ
text_mine apid packet = if is_none (skip_of apid packet) then text_in packet else []

-- the state after it is returned: a whole packet is passed
unfoldable pub answered : (apid : ℕ) → Intake → Intake
answered apid v =
    if begins_packet v.pending then record v { pending = after_packet v.pending; text = text_mine apid (first_packet v.pending) }
    else record v { text = [] }

-- the state after these further octets, and after the end if it was reached; the last text is dropped then
abbrev pub fed : Intake → List ℕ → (saw_end : Bool) → Intake
fed v octets saw_end = record {
  cap = v.cap;
  taken = v.taken + length octets;
  pending = v.pending ++ octets;
  text = [];
  ended = v.ended || saw_end;
}
