-- What was read of the next packet, and that there is room for its counts.
use Rattle.std.proofs.Common.{◌≡◌, ◌≤◌, ◌<◌, ◌+◌, ◌-◌, ◌%◌, ℕ, List, length, sym, ap, ◌∙◌, arith, length-append, length-take, true, Option, None, Some}
use Rattle.std.proofs.Common.{Result, Ok, Err, get_or-set_same, get_or-set_other, length-set}
use Rattle.std.proofs.lemmas.Bool.{false≢true, cases_lt}
use Rattle.std.proofs.lemmas.Bool.Decides.{nat_tests}
use Rattle.byteorder.specs.Endian.{big_number}
use Rattle.bit_pipe.specs.declared.fault.InFault.{InFault}
use Rattle.port_122.specs.Outside.{Outside}
use Rattle.packet_defs.specs.declared.ancillary.Ancillary.{Ancillary}
use Rattle.packet_defs.specs.declared.packet.PacketHead.{PacketHead}
use Rattle.packet_defs.specs.declared.packet.PacketRead.{PacketRead}
use Rattle.packet_defs.specs.declared.packet.PacketRead.TheVariants.{Mine}
use Rattle.packet_defs.specs.declared.packet.Skip.{Skip}
use Rattle.packet_defs.specs.Reading.{apid_in, flags_in, head_in, ancillary_in, text_in, skip_of}
use Rattle.packet_defs.specs.Streams.{reported_length, begins_packet, first_packet, IsPacket}
use Rattle.packet_defs.proofs.Prefixes.{begins_so, first_is_packet, known_least}
use Rattle.space_packets.specs.Intake.{Intake, verdict, answered}
use Rattle.space_packets.specs.PacketReads.{TakenSoFar}
use Rattle.space_packets.proofs.Intakes.{answered_packet}
use Rattle.packet_assembly.specs.Ranged.{IsRanged}
use Rattle.space_packets.proofs.Verdicts.{other_read, over_read, long_read}
use Rattle.camera_mux.specs.declared.image.ImageId.{ImageId}
use Rattle.camera_mux.specs.declared.image.ImageEntry.{ImageEntry}
use Rattle.camera_mux.specs.declared.image_table.TableFull.{TableFull}
use Rattle.camera_mux.specs.Images.{id_in, is_wanted}
use Rattle.camera_mux.specs.Tables.{FitsMore, no_entry, entry_at, IsPlace, IsWithin, state_at, with_entry, AreRanged, CanCount, PutsEntry, PassesImage}
use Rattle.camera_mux.specs.Tables.{PassesPacket}
use Rattle.camera_mux.specs.ImageSteps.{CanTake}
use Rattle.camera_mux.proofs.ImageLists.{each_more}

-- ---- the octets of a packet

pub length_known : (packet : List ℕ) → IsPacket packet → length packet ≡ 6 + (head_in packet).length
unfolding reported_length
length_known packet p = p.whole

pub packet_long : (octets : List ℕ) → begins_packet octets ≡ true → 7 ≤ length (first_packet octets)
packet_long octets whole = let p = first_is_packet (begins_so octets whole) in omega (arith, p.whole, known_least (first_packet octets))

pub apid_so : (octets packet : List ℕ) (n : ℕ) → octets ≡ packet → n ≡ big_number 2 octets → n % 2048 ≡ apid_in packet
apid_so octets packet n is e = ap (λ n. n % 2048) (e ∙ ap (big_number 2) is)

-- ---- what is read of it

pub no_fault : (apid : ℕ) (u : Intake) (fault : InFault) → begins_packet u.pending ≡ true → verdict apid u ≡ Some (Err fault) → ⊥
no_fault apid u fault whole e = false≢true (sym (long_read apid u fault e).none ∙ whole)

-- if it is none of an image, it is skipped
pub other_skip : (apid : ℕ) (u : Intake) (read : PacketRead) → begins_packet u.pending ≡ true → verdict apid u ≡ Some (Ok read) →
    ((head : PacketHead) (a : Ancillary) → read ≡ Mine head a → ⊥) →
    (skip : Skip) × (skip_of apid (first_packet u.pending) ≡ Some skip)
other_skip apid u read whole e not = grind (arith, nat_tests, other_read, false≢true, over_read)

-- its text, if it is one of an image
pub text_so : (apid : ℕ) (u w : Intake) → begins_packet u.pending ≡ true → skip_of apid (first_packet u.pending) ≡ None → w ≡ answered apid u →
    w.text ≡ text_in (first_packet u.pending)
text_so apid u w whole mine valid = grind (arith, nat_tests, answered_packet)

-- ---- what is left of the table

pub skipped_passes : (wanted : Option ℕ) (table : List ImageEntry) (packet : List ℕ) (skip : Skip) → skip_of (apid_in packet) packet ≡ Some skip →
    PassesPacket wanted table table packet (Ok tt)
skipped_passes wanted table packet skip other = grind (arith, nat_tests)

pub image_passes : (wanted : Option ℕ) (table after : List ImageEntry) (packet : List ℕ) (result : Result Unit TableFull) →
    is_wanted wanted (apid_in packet) ≡ true → skip_of (apid_in packet) packet ≡ None →
    PassesImage table after (id_in packet) (flags_in packet) (ancillary_in packet) (text_in packet) (length packet) result →
    PassesPacket wanted table after packet result
image_passes wanted table after packet result is mine x = rw (is, mine) x

-- by what was read of the packet
pub image_said : (table after : List ImageEntry) (packet : List ℕ) (head : PacketHead) (a : Ancillary) (text : List ℕ) (result : Result Unit TableFull) →
    IsPacket packet → head ≡ head_in packet → a ≡ ancillary_in packet → text ≡ text_in packet →
    PassesImage table after (record { apid = head.apid; image = a.image }) head.flags a text (6 + head.length) result →
    PassesImage table after (id_in packet) (flags_in packet) (ancillary_in packet) (text_in packet) (length packet) result
image_said table after packet head a text result whole head_is a_is text_is x = grind (arith, nat_tests, length, length_known)

-- ---- geometries in range

pub within_so : (table : List ImageEntry) (id : ImageId) (place : Option ℕ) → IsPlace table id place → IsWithin table place
within_so table id place is = grind (arith, nat_tests)

pub state_ranged : (table : List ImageEntry) (place : Option ℕ) → AreRanged table → IsWithin table place → IsRanged (state_at table place)
state_ranged table place all is = grind (arith, nat_tests)

with_ranged : (table : List ImageEntry) (place : Option ℕ) (entry : ImageEntry) → AreRanged table → IsWithin table place → IsRanged entry.state →
    AreRanged (with_entry table place entry)
with_ranged table None entry all is ranged = record { ranged = each_more (λ (e : ImageEntry). IsRanged e.state) table entry no_entry all.ranged ranged }
with_ranged table (Some place) entry all is ranged = grind (arith, nat_tests, length, cases_lt, get_or-set_other, length-set, get_or-set_same)

pub put_ranged : (old new : List ImageEntry) (place : Option ℕ) (entry : ImageEntry) (result : Result Unit TableFull) → AreRanged old → IsWithin old place →
    IsRanged entry.state → PutsEntry old new place entry result → AreRanged new
put_ranged old new place entry result all is ranged puts = grind (arith, nat_tests, with_ranged)

-- ---- room for the counts

pub can_count : {old now : Outside} {v u : Intake} (table : List ImageEntry) → CanTake table v → TakenSoFar old now v u → begins_packet u.pending ≡ true →
    CanCount table (length (first_packet u.pending))
can_count {v = v} {u = u} table can x whole = record { fits = fits }
  where
    fits : (k : ℕ) → k < length table → FitsMore (entry_at table k).count (length (first_packet u.pending))
    fits k lt =
        let place = can.place in
        let below = can.below k lt (v.taken - length v.pending) (omega (arith, place)) in
        let waits : length u.pending ≡ length v.pending + length x.took = ap (λ (u : Intake). length u.pending) x.valid ∙ length-append v.pending x.took in
        let cap = can.cap in
        let within = x.within in
        let some = packet_long u.pending whole in
        grind (arith, nat_tests, length, length-take)
