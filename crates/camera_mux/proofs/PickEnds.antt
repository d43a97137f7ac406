-- How a pick ends.
use Rattle.std.proofs.lemmas.Bool.Decides.{nat_tests}
use Rattle.std.proofs.Common.{◌≡◌, ◌≤◌, ◌+◌, ℕ, [], ◌∷◌, ◌++◌, length, take, sym, ap, ◌∙◌, arith, length-append, Option, Ok, Err}
use Rattle.std.proofs.lemmas.List.{take-append-le}
use Rattle.std.proofs.Math.Seq.{take-append-add}
use Rattle.bit_pipe.specs.declared.fault.InFault.TheVariants as in_faults
use Rattle.port_122.specs.Outside.{Outside}
use Rattle.port_122.proofs.Stretches.{rose_since, since_out}
use Rattle.base_122.specs.declared.wish.DecodeWish.{DecodeWish}
use Rattle.packet_defs.specs.declared.packet.Framing.{Framing}
use Rattle.packet_defs.specs.Packets.{joined}
use Rattle.packet_defs.specs.Streams.{first_packet, after_packet, whole_packets}
use Rattle.space_packets.specs.Intake.{Intake}
use Rattle.space_packets.specs.PacketReads.{ReadsPacket}
use Rattle.space_packets.proofs.StreamReads.{undecided_none}
use Rattle.packet_assembly.specs.PacketSteps.{FindsEnd, FindsCap}
use Rattle.packet_assembly.proofs.PacketSteps.{whole_past, taken_by, read_found}
use Rattle.packet_assembly.proofs.Readings.{read_within, whole_so, ended_packets, ended_framing, ended_out, long_packets, long_good, long_full}
use Rattle.camera_mux.specs.Picked.{picked_of, picked}
use Rattle.strip_decoder.specs.declared.list.ListFault.{ListFault}
use Rattle.strip_decoder.specs.declared.list.ListFault.TheVariants.{ReadFault, WriteFault, LongInput, Memory}
use Rattle.camera_mux.specs.PickProgress.{HasPicked}
use Rattle.camera_mux.specs.PickSteps.{FailsToGive, PicksNext}
use Rattle.camera_mux.specs.PickAnswers.{Picks}
use Rattle.camera_mux.proofs.PickRuns.{picked_both, picked_more, gave_on, filled}

-- the end was read, or what can't be read on
pub all_picked : {wish : DecodeWish} {image : Option ℕ} {start now new : Outside} {v : Intake} {packets : ℕ} {found : Option Framing} →
    HasPicked wish image start now v packets →
    FindsEnd wish.apid now new v found → Picks wish image start new (Ok (record { packets = packets; framing = found }))
all_picked {wish = wish} {image = image} {new = new} {found = found} before x =
    let arrived = filled before x.taken in
    let read = read_found found arrived.read in
    let whole = ended_packets read x.over in
    record {
      took = arrived.took;
      gave = joined (picked_of wish.apid image arrived.passed);
      since = arrived.since;
      readable = arrived.readable;
      within = read_within read;
      answer = record {
        octets = ap (λ ps. joined (picked_of wish.apid image ps)) (sym whole);
        packets = arrived.packets_are ∙ ap (λ ps. length (picked_of wish.apid image ps)) (sym whole);
        framing_is = ended_framing read x.over;
        out = ended_out read new x.over arrived.at_end;
      };
    }

-- all octets that may be taken were taken
long_picked : {wish : DecodeWish} {image : Option ℕ} {start now new : Outside} {v : Intake} {packets : ℕ} → HasPicked wish image start now v packets →
    FindsCap wish.apid now new v → Picks wish image start new (Err LongInput)
long_picked {wish = wish} {image = image} before x =
    let arrived = filled before x.taken in
    record {
      took = arrived.took;
      gave = joined (picked_of wish.apid image arrived.passed);
      since = arrived.since;
      readable = arrived.readable;
      within = read_within arrived.read;
      answer = (
        long_full arrived.read x.over,
        long_good arrived.read x.over,
        ap (λ ps. joined (picked_of wish.apid image ps))
            (sym (long_packets arrived.read x.over)),
      );
    }

-- a read failed
read_failed : {wish : DecodeWish} {image : Option ℕ} {start now new : Outside} {v w : Intake} {packets : ℕ} → HasPicked wish image start now v packets →
    ReadsPacket wish.apid now new v w (Err in_faults.ReadFault) → Picks wish image start new (Err ReadFault)
read_failed {wish = wish} {image = image} {now = now} {new = new} {v = v} before x =
    let arrived = filled before (taken_by x) in
    let whole = whole_so arrived.read (undecided_none _ x.ends.1) in
    grind (arith, nat_tests, read_within, rose_since)

-- a write failed: a prefix of its packet was given after all before
write_failed : {wish : DecodeWish} {image : Option ℕ} {start now new : Outside} {v : Intake} {packets : ℕ} → HasPicked wish image start now v packets →
    FailsToGive wish.apid image now new v → Picks wish image start new (Err WriteFault)
write_failed {wish = wish} {image = image} before x =
    let arrived = filled before x.holds.taken in
    let packet = first_packet x.full.pending in
    let rest = after_packet x.full.pending in
    let all = arrived.passed ++ packet ∷ [] in
    let gave = joined (picked_of wish.apid image arrived.passed) in
    let later = joined (picked_of wish.apid image (whole_packets rest)) in
    let whole = whole_past wish.apid wish.apid x.full arrived.passed x.holds.whole wish.octets arrived.took arrived.read in
    let octets : picked arrived.took wish.apid image ≡ (gave ++ packet) ++ later =
    ap (λ ps. joined (picked_of wish.apid image ps)) whole ∙ picked_both wish.apid image all (whole_packets rest)
    ∙ ap (λ zs. zs ++ later) (picked_more wish.apid image arrived.passed packet x.holds.test) in
    let some = length gave + x.some in
    let few : some ≤ length (gave ++ packet) = omega (arith, x.within, length-append gave packet) in
    let prefix : take some (picked arrived.took wish.apid image) ≡ gave ++ take x.some packet = grind (arith, nat_tests, take-append-le, take-append-add) in
    record {
      took = arrived.took;
      gave = gave ++ take x.some packet;
      since = gave_on arrived x.gives;
      readable = since_out arrived.readable x.gives;
      within = read_within arrived.read;
      answer = (rose_since arrived.since.faults.writes x.rose, (some, sym prefix));
    }

pub picks_failed : {wish : DecodeWish} {image : Option ℕ} {start now : Outside} {v : Intake} {packets : ℕ} (new : Outside) (w : Intake)
    (fault : ListFault) → HasPicked wish image start now v packets →
    PicksNext wish.apid image now new v w (Err fault) → Picks wish image start new (Err fault)
picks_failed new w ReadFault before x = read_failed before x
picks_failed new w LongInput before x = long_picked before x
picks_failed new w WriteFault before x = write_failed before x
picks_failed new w Memory before x = absurd x
