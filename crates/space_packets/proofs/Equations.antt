-- What the definitions of a reader compute to: outside this crate these equations are cited, and nothing is unfolded.
use Rattle.std.proofs.Common.{◌≡◌, ℕ, [], ◌∷◌, ◌||◌, ◌==◌, Ok, Err, refl}
use Rattle.bit_pipe.specs.declared.fault.InFault.TheVariants.{LongInput}
use Rattle.packet_defs.specs.declared.packet.Framing.TheVariants.{BadVersion}
use Rattle.packet_defs.specs.declared.packet.PacketRead.TheVariants.{Fault}
use Rattle.packet_defs.specs.Reading.{packet_read}
use Rattle.packet_defs.specs.Streams.{begins_packet, first_packet, has_bad_version, framing_at}
use Rattle.packet_defs.specs.Tests.{when, first_of}
use Rattle.space_packets.specs.Intake.{Intake, place_of, is_decided, end_read, verdict}

pub is_decided-is : (v : Intake) → is_decided v ≡ (has_bad_version v.pending || (begins_packet v.pending || (v.ended || (v.taken == v.cap))))
unfolding is_decided
is_decided-is v = refl

pub verdict-is : (apid : ℕ) (v : Intake) → verdict apid v ≡ first_of (
    when (has_bad_version v.pending) (Ok (Fault (BadVersion (place_of v)))) ∷ when (begins_packet v.pending) (Ok (packet_read apid (first_packet v.pending)))
    ∷ when v.ended (Ok (end_read (framing_at (place_of v) v.pending))) ∷ when (v.taken == v.cap) (Err LongInput) ∷ [])
unfolding verdict
verdict-is apid v = refl
