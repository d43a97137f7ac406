-- The reason why a stream can't be read on, once it was found, remains true.
use Rattle.std.proofs.lemmas.Bool.Decides.{nat_tests}
use Rattle.std.proofs.Common.{arith, ◌≡◌, ℕ, refl, Option, Some, None, Ok, Err}
use Rattle.bit_pipe.specs.declared.fault.InFault.{InFault}
use Rattle.port_122.specs.Outside.{Outside}
use Rattle.packet_defs.specs.declared.ancillary.Ancillary.{Ancillary}
use Rattle.packet_defs.specs.declared.packet.PacketHead.{PacketHead}
use Rattle.packet_defs.specs.declared.packet.Skip.{Skip}
use Rattle.packet_defs.specs.declared.packet.Framing.{Framing}
use Rattle.packet_defs.specs.declared.packet.PacketRead.TheVariants.{Mine, Skipped, Fault}
use Rattle.space_packets.specs.Intake.{Intake, fed}
use Rattle.space_packets.specs.PacketReads.{ReadsPacket}
use Rattle.packet_assembly.specs.Held.{IsValidAtFault}
use Rattle.packet_assembly.proofs.Again.{over_answers}
use Rattle.packet_assembly.proofs.OneStep.{same_intake}
use Rattle.space_packets.proofs.Verdicts.{over_read}

-- the reason that was found before is true
abbrev pub KnownSo : (apid : ℕ) → Intake → Option Framing → Type 0
KnownSo apid v if_known = (f : Framing) → if_known ≡ Some f → IsValidAtFault apid v f

pub known_none : (apid : ℕ) (v : Intake) → KnownSo apid v None
known_none apid v f e = absurd (let no : None ≡ Some f = e in cc)

-- if a packet is read, no reason was found
pub known_mine : (apid : ℕ) (p q : Outside) (v w : Intake) (if_known : Option Framing) (head : PacketHead) (reports : Ancillary) →
    ReadsPacket apid p q v w (Ok (Mine head reports)) →
    KnownSo apid v if_known → KnownSo apid w if_known
known_mine apid p q v w if_known head reports reads so f e =
    absurd (let no : Ok (Mine head reports) ≡ Ok (Fault f) = over_answers (Fault f) refl reads (so f e) in cc)

pub known_skipped : (apid : ℕ) (p q : Outside) (v w : Intake) (if_known : Option Framing) (skip : Skip) → ReadsPacket apid p q v w (Ok (Skipped skip)) →
    KnownSo apid v if_known → KnownSo apid w if_known
known_skipped apid p q v w if_known skip reads so f e = absurd (let no : Ok (Skipped skip) ≡ Ok (Fault f) = over_answers (Fault f) refl reads (so f e) in cc)

pub known_failed : (apid : ℕ) (p q : Outside) (v w : Intake) (if_known : Option Framing) (fault : InFault) → ReadsPacket apid p q v w (Err fault) →
    KnownSo apid v if_known → KnownSo apid w if_known
known_failed apid p q v w if_known fault reads so f e = absurd (let no : Err fault ≡ Ok (Fault f) = over_answers (Fault f) refl reads (so f e) in cc)

-- if the reason is found
pub known_fault : (apid : ℕ) (p q : Outside) (v w : Intake) (fault : Framing) → ReadsPacket apid p q v w (Ok (Fault fault)) → KnownSo apid w (Some fault)
known_fault apid p q v w fault reads f e =
    let u = fed v reads.took reads.saw_end in
    let same = same_intake apid v w reads.took reads.saw_end (over_read apid u (Fault fault) refl reads.ends.0).0 reads.ends.1 in
    grind (arith, nat_tests)
