-- What a reader without an assembly has read after a step.
use Rattle.std.proofs.Common.{◌≡◌, ◌<◌, ◌+◌, ◌-◌, ℕ, List, [], ◌∷◌, ◌++◌, length, take, refl, sym, ap, subst, ◌∙◌, arith, append_assoc, append-nil}
use Rattle.std.proofs.Common.{length-append, take-append-drop, true, false, Option, None, Some, Ok, Err}
use Rattle.std.proofs.lemmas.Bool.{false≢true}
use Rattle.std.proofs.lemmas.Bool.Decides.{nat_tests}
use Rattle.std.proofs.Math.Seq.{take-append-add}
use Rattle.bit_pipe.specs.declared.fault.InFault.{InFault}
use Rattle.bit_pipe.specs.declared.fault.InFault.TheVariants as in_faults
use Rattle.port_122.specs.Outside.{Outside, Exchange}
use Rattle.port_122.proofs.Stretches.{each_of_both, since_weaker}
use Rattle.packet_defs.specs.declared.packet.Framing.{Framing}
use Rattle.packet_defs.specs.declared.packet.PacketRead.{PacketRead}
use Rattle.packet_defs.specs.Packets.{joined}
use Rattle.packet_defs.specs.Streams.{reported_length, begins_packet, first_packet, after_packet, IsPacket, whole_packets}
use Rattle.packet_defs.proofs.Prefixes.{begins_so, first_is_packet}
use Rattle.packet_defs.proofs.Joins.{joined-append}
use Rattle.space_packets.specs.Intake.{Intake, unread, is_decided, end_read, verdict, answered, fed}
use Rattle.space_packets.specs.PacketReads.{TakenSoFar, ReadsPacket}
use Rattle.space_packets.proofs.Intakes.{answered_packet}
use Rattle.space_packets.proofs.StreamReads.{undecided_none}
use Rattle.packet_assembly.specs.Passing.{whole_after}
use Rattle.packet_assembly.specs.Readings.{HasRead, SawEnd, AsksReadable}
use Rattle.packet_assembly.specs.PacketSteps.{framing_in, reading}
use Rattle.packet_assembly.proofs.Arriving.{decided_ended}
use Rattle.packet_assembly.proofs.OneStep.{none_whole, asks_readable, nothing_left}
use Rattle.packet_assembly.proofs.Readings.{readable_more}
use Rattle.space_packets.proofs.Verdicts.{mine_read, other_read, long_read, shorter_past}

-- ---- the beginning

pub unread_so : (mine cap : ℕ) → HasRead mine cap (reading mine (unread cap) [] None) [] []
unread_so mine cap = record { apid = refl; taken = refl; cap = refl; capped = omega arith; octets_are = refl; packets_are = tt; state = refl; count = refl }

pub unended_so : (mine cap : ℕ) (start : Outside) → SawEnd start (reading mine (unread cap) [] None)
unended_so mine cap start rest if_known ended = absurd (false≢true ended)

-- ---- octets more

module _ {mine cap : ℕ} {v u : Intake} {took : List ℕ} {passed : List (List ℕ)} {now new : Outside}
    (read : HasRead mine cap (reading mine v passed None) took passed) (x : TakenSoFar now new v u) where
  -- at a read call of the step no packet more is whole
  pub whole_so_far : (i : ℕ) → is_decided (fed v (take i x.took) false) ≡ false → whole_packets (take (length took + i) (took ++ x.took)) ≡ passed
  whole_so_far i undecided =
      let none : whole_packets (v.pending ++ take i x.took) ≡ [] =
      none_whole (v.pending ++ take i x.took) (undecided_none (fed v (take i x.took) false) undecided) in
      let octets : take (length took + i) (took ++ x.took) ≡ joined passed ++ (v.pending ++ take i x.took) =
      grind (arith, nat_tests, length, take-append-add, append_assoc) in
      ap whole_packets octets ∙ whole_after passed (v.pending ++ take i x.took) read.packets_are ∙ ap (λ xs. passed ++ xs) none ∙ append-nil passed

  pub read_more : HasRead mine cap (reading mine (fed v x.took x.saw_end) passed None) (took ++ x.took) passed
  read_more = grind (arith, nat_tests, length-append, append_assoc)

  -- each read call was made while the octets could be read on
  pub readable_fed : {start : Outside} {gave : List ℕ} → Exchange start now took gave [] (AsksReadable cap took) →
      Exchange start new (took ++ x.took) gave [] (AsksReadable cap (took ++ x.took))
  readable_fed before = readable_more mine cap read before (since_weaker x.since (asks_readable (reading mine v passed None) x.took x.within))

  -- if the end was reached, nothing is left
  pub end_more : SawEnd now (reading mine v passed None) → SawEnd new (reading mine (fed v x.took x.saw_end) passed None)
  end_more before rest if_known ended = grind (arith, nat_tests, length, decided_ended, nothing_left)

-- the octets of a step whose read call failed, as those of one that goes on
pub taken_by : {apid : ℕ} {now new : Outside} {v w : Intake} (x : ReadsPacket apid now new v w (Err in_faults.ReadFault)) →
    TakenSoFar now new v (fed v x.took x.saw_end)
taken_by x = record {
  took = x.took;
  saw_end = x.saw_end;
  since = x.since;
  end_seen = x.end_seen;
  within = x.within;
  at_once = x.at_once;
  end_below =
      x.end_below;
  valid = refl;
}

-- ---- the next packet

-- the reader is after the packet with which the octets that wait begin, whatever APID its caller wants
module _ (mine apid : ℕ) (u : Intake) (passed : List (List ℕ)) (whole : begins_packet u.pending ≡ true) where
  abbrev packet : List ℕ
  packet = first_packet u.pending

  pub read_past : (cap : ℕ) (took : List ℕ) → HasRead mine cap (reading mine u passed None) took passed →
      HasRead mine cap (reading mine (answered apid u) (passed ++ packet ∷ []) None) took (passed ++ packet ∷ [])
  read_past cap took read =
      let all = passed ++ packet ∷ [] in
      subst (λ v. HasRead mine cap (reading mine v all None) took all) (sym (answered_packet apid u whole)) (record {
        apid = refl;
        taken = read.taken;
        cap = read.cap;
        capped = read.capped;
        octets_are = read.octets_are ∙ ap (λ zs. joined passed ++ zs) (sym (take-append-drop (reported_length u.pending) u.pending))
            ∙ sym (append_assoc (joined passed) packet (after_packet u.pending))
            ∙ ap (λ zs. (joined passed ++ zs) ++ after_packet u.pending) (sym (append-nil packet))
            ∙ ap (λ zs. zs ++ after_packet u.pending) (sym (joined-append passed (packet ∷ [])));
        packets_are = each_of_both IsPacket passed (packet ∷ []) read.packets_are (first_is_packet (begins_so u.pending whole), tt);
        state = refl;
        count = refl;
      })

  pub end_past : (now : Outside) → SawEnd now (reading mine u passed None) → SawEnd now (reading mine (answered apid u) (passed ++ packet ∷ []) None)
  end_past now before = subst (λ v. SawEnd now (reading mine v (passed ++ packet ∷ []) None)) (sym (answered_packet apid u whole)) before

  -- all packets of the octets that were taken
  pub whole_past : (cap : ℕ) (took : List ℕ) → HasRead mine cap (reading mine u passed None) took passed → whole_packets took ≡ (passed ++ packet ∷ [])
      ++ whole_packets (after_packet u.pending)
  whole_past cap took read =
      let all = passed ++ packet ∷ [] in
      let past = read_past cap took read in
      ap whole_packets (past.octets_are ∙ ap (λ (w : Intake). joined all ++ w.pending) (answered_packet apid u whole))
      ∙ whole_after all (after_packet u.pending) past.packets_are

-- octets that can still be passed
abbrev pub octets_left : Intake → ℕ
octets_left v = (v.cap - v.taken) + length v.pending

pub less_left : (apid : ℕ) {old now : Outside} {v u w : Intake} → TakenSoFar old now v u → begins_packet u.pending ≡ true → w ≡ answered apid u →
    octets_left w < octets_left v
less_left apid {v = v} {w = w} taken whole valid = grind (arith, nat_tests, answered_packet, length-append, shorter_past)

-- ---- no next packet

-- whatever the result at the end will be
pub read_found : {mine cap : ℕ} {v : Intake} {took : List ℕ} {passed : List (List ℕ)} (found : Option Framing) →
    HasRead mine cap (reading mine v passed None) took passed → HasRead mine cap (reading mine v passed found) took passed
read_found found read = record {
  apid = read.apid;
  taken = read.taken;
  cap = read.cap;
  capped = read.capped;
  octets_are = read.octets_are;
  packets_are =
      read.packets_are;
  state = read.state;
  count = read.count;
}

pub over_so : (apid : ℕ) (u : Intake) (read : PacketRead) → begins_packet u.pending ≡ false → verdict apid u ≡ Some (Ok read) →
    verdict apid u ≡ Some (Ok (end_read (framing_in read)))
over_so apid u read none e = grind (arith, nat_tests, false≢true, mine_read, other_read)

pub long_so : (apid : ℕ) (u : Intake) (fault : InFault) → verdict apid u ≡ Some (Err fault) → verdict apid u ≡ Some (Err in_faults.LongInput)
long_so apid u fault e = e ∙ ap (λ (f : InFault). Some (Err f)) (long_read apid u fault e).is
