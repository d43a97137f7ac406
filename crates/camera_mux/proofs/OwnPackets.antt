-- The packets of an image are whole and have its APID, so they are all picked by it, and by no other.
use Rattle.std.proofs.lemmas.Bool.Decides.{nat_tests}
use Rattle.std.proofs.Common.{◌≡◌, ◌≤◌, ◌<◌, ◌+◌, ◌-◌, ◌*◌, ◌%◌, ◌^◌, ℕ, zero, suc, ℤ, List, [], ◌∷◌, ◌++◌, length, map, drop, refl, sym, ap, subst, ◌∙◌}
use Rattle.std.proofs.Common.{arith, length-append, length-take, Bool, false, cond, ◌==◌, None, eq-eqb, ne_eqb}
use Rattle.std.specs.List.{AllByRecursion, range_with_len}
use Rattle.byteorder.specs.Endian.{big_bytes}
use Rattle.port_122.proofs.Stretches.{each_of_both}
use Rattle.base_122.specs.declared.setting.Setting.{Setting}
use Rattle.packet_defs.specs.declared.ancillary.Ancillary.{Ancillary}
use Rattle.packet_defs.specs.Packets.{identification, sequence_control, sequence_flags, ancillary_octets, packet_with, part_count, part_of, part_packet}
use Rattle.packet_defs.specs.Packets.{part_size, text_packets}
use Rattle.packet_defs.specs.Reading.{apid_in, number_at}
use Rattle.packet_defs.specs.Streams.{IsPacket}
use Rattle.packet_defs.specs.Written.{IsAncillary}
use Rattle.packet_defs.proofs.Prefixes.{if_known-append, version-append}
use Rattle.packet_defs.proofs.ReadBack.{reads_back}
use Rattle.stream_defs.specs.Output.{ancillary_of, packets_before, segment_packets, segment_text}
use Rattle.stream_defs.proofs.OutPackets.{flags_few}
use Rattle.camera_mux.specs.Picked.{picked_of}
use Rattle.camera_mux.proofs.LeadingPackets.{packets_from}
use Rattle.packet_defs.proofs.Equations.{text_packets-is}

-- a whole packet with this APID
pub record IsOwn (apid : ℕ) (packet : List ℕ) : Type 0 where
  pub whole : IsPacket packet
  pub own : apid_in packet ≡ apid

-- ---- one packet

abbrev no_ancillary : Ancillary
no_ancillary = record { image = 0; reported_last = false; rows = 0; segment = 0; index = 0; first = 0; part = 0 }

none_fits : IsAncillary no_ancillary
none_fits = record { image = omega arith; rows = omega arith; segment = omega arith; index = omega arith; first = omega arith; part = omega arith }

-- the primary header of a packet whose data field has n octets
abbrev header : (apid flags number n : ℕ) → List ℕ
header apid flags number n = big_bytes 2 (identification apid) ++ big_bytes 2 (sequence_control flags number) ++ big_bytes 2 (n - 1)

-- whether it is a packet depends on its header and on its length
same_length : (apid flags number : ℕ) (a b : List ℕ) → length a ≡ length b → IsPacket (packet_with apid flags number a) →
    IsPacket (packet_with apid flags number b)
same_length apid flags number a b e p =
    let h = header apid flags number (length b) in
    let q : IsPacket (h ++ a) = subst (λ n. IsPacket (header apid flags number n ++ a)) e p in
    let long : 6 ≤ length h = omega arith in
    let some : 0 < length h = omega arith in
    record {
      version = version-append h b some ∙ sym (version-append h a some) ∙ q.version;
      whole = length-append h b ∙ ap (λ n. length h + n) (sym e) ∙ sym (length-append h a) ∙ q.whole ∙ if_known-append h a long
          ∙ sym (if_known-append h b long);
    }

own_packet : (apid flags number : ℕ) (a : Ancillary) (text : List ℕ) → apid < 2047 → flags < 4 → 24 + length text ≤ 65536 →
    IsOwn apid (packet_with apid flags number (ancillary_octets a ++ text))
own_packet apid flags number a text own few room =
    let field = ancillary_octets a ++ text in
    let other = ancillary_octets no_ancillary ++ text in
    let size : length field ≡ 24 + length text = length-append (ancillary_octets a) text in
    let size' : length other ≡ 24 + length text = length-append (ancillary_octets no_ancillary) text in
    let reads = reads_back apid flags number no_ancillary text (record { own = own; few_flags = few; ancillary = none_fits; room = room }) in
    let first : number_at (packet_with apid flags number field) 0 2 ≡ identification apid = grind (arith, nat_tests, length) in
    record {
      whole = same_length apid flags number other field (size' ∙ sym size) reads.whole;
      own = ap (λ n. n % 2 ^ 11) first ∙ (let e : identification apid % 2 ^ 11 ≡ apid = omega (arith, own) in e);
    }

-- ---- the packets of a text, and of segments

module _ (apid packet : ℕ) (known : apid < 2047) (least : 64 ≤ packet) (most : packet ≤ 65536) where
  own_parts : (a : Ancillary) (before n : ℕ) (text : List ℕ) (parts : List ℕ) →
      AllByRecursion (IsOwn apid) (map (λ part. part_packet apid a packet before n part text) parts)
  own_parts a before n text [] = tt
  own_parts a before n text (part ∷ parts) = (
    own_packet apid (sequence_flags part n) (before + part) (record a { part = part }) (part_of (part_size packet) part text) known
        (flags_few (part == 0) (part + 1 == n))
        (omega (arith, least, most, length-take (part_size packet) (drop (part * part_size packet) text))),
    own_parts a before n text parts,
  )

  own_text : (a : Ancillary) (before : ℕ) (text : List ℕ) → AllByRecursion (IsOwn apid) (text_packets apid a packet before text)
  own_text a before text = rw text_packets-is (own_parts a before (part_count (part_size packet) (length text)) text
      (range_with_len 0 (part_count (part_size packet) (length text))))

module _ (reported_last : Bool) (s : Setting) (all : List (List ℤ)) (apid : s.apid < 2047) (least : 64 ≤ s.packet) (most : s.packet ≤ 65536) where
  pub own_segments : (from more : ℕ) → AllByRecursion (IsOwn s.apid) (packets_from reported_last s all from more)
  own_segments from zero = tt
  own_segments from (suc more) =
      each_of_both (IsOwn s.apid) (segment_packets reported_last s all from) (packets_from reported_last s all (from + 1) more)
      (own_text s.apid s.packet apid least most (ancillary_of reported_last s from) (packets_before s all from) (segment_text s all from))
      (own_segments (from + 1) more)

-- ---- what is picked of them

pub are_whole : (apid : ℕ) (packets : List (List ℕ)) → AllByRecursion (IsOwn apid) packets → AllByRecursion IsPacket packets
are_whole apid [] own = tt
are_whole apid (packet ∷ packets) own = (own.0.whole, are_whole apid packets own.1)

pub own_picked : (apid : ℕ) (packets : List (List ℕ)) → AllByRecursion (IsOwn apid) packets → picked_of apid None packets ≡ packets
own_picked apid [] own = refl
own_picked apid (packet ∷ packets) own =
    ap (λ b. cond b (packet ∷ picked_of apid None packets) (picked_of apid None packets)) (eq-eqb (apid_in packet) apid own.0.own)
    ∙ ap (λ ps. packet ∷ ps) (own_picked apid packets own.1)

pub others_left : (apid other : ℕ) (packets : List (List ℕ)) → (other ≡ apid → ⊥) → AllByRecursion (IsOwn other) packets → picked_of apid None packets ≡ []
others_left apid other [] ne own = refl
others_left apid other (packet ∷ packets) ne own =
    ap (λ b. cond b (packet ∷ picked_of apid None packets) (picked_of apid None packets)) (ne_eqb (apid_in packet) apid (λ e. ne (sym own.0.own ∙ e)))
    ∙ others_left apid other packets ne own.1
