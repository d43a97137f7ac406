-- A text is continued by octets that its part has room for, or by one after a full part.
use Rattle.std.proofs.Common.{rules, ◌≡◌, ◌≤◌, ◌+◌, ℕ, List, [], ◌∷◌, ◌++◌, length, take, refl, sym, ◌∙◌, subst, arith, add-zero, length-append, false}
use Rattle.std.proofs.Common.{zero-mul, append-nil, drop_at, take_at}
use Rattle.std.proofs.lemmas.Bool.Decides.{nat_tests}
use Rattle.port_122.specs.Outside.{Outside, Exchange, NoRead}
use Rattle.port_122.proofs.Stretches.{since_start}
use Rattle.packet_defs.specs.Packets.{part_size}
use Rattle.space_packets.specs.declared.stage.PacketiserState.TheVariants.{Begun, Broken}
use Rattle.space_packets.specs.declared.stage.Text.{Text}
use Rattle.space_packets.specs.Parts.{text_at, packet_of}
use Rattle.space_packets.specs.Progress.{Progress, IsOpen, full_count, full_packet, first_packets, broken}
use Rattle.space_packets.specs.Writes.{Continues, StopsEarly, PacketOut, PacketFailed}
use Rattle.space_packets.specs.Going.{same_progress}

-- ---- if the part has room

none_full : {t : Text} {v : Progress} → IsOpen t v → (octets : List ℕ) → length v.pending + length octets ≤ part_size v.packet → full_count v octets ≡ 0
none_full {v = v} going octets room = grind (arith, nat_tests, length-append)

pub goes_on_in : {t : Text} {p : Outside} {v w : Progress} → IsOpen t v → (octets : List ℕ) → length v.pending + length octets ≤ part_size v.packet →
    w ≡ record v { pending = v.pending ++ octets } → Continues t p p v w octets
unfolding first_packets
goes_on_in {t = t} {p = p} {v = v} {w = w} going octets room e =
    let none : full_count v octets ≡ 0 = none_full going octets room in
    search (rules, since_start, add-zero, length, zero-mul)

-- ---- if the part is full

one_full : {t : Text} {v : Progress} → IsOpen t v → (octet : ℕ) → length v.pending ≡ part_size v.packet → full_count v (octet ∷ []) ≡ 1
one_full {v = v} going octet full = grind (arith, nat_tests, length-append)

first_is : (t : Text) (v : Progress) (octet : ℕ) → length v.pending ≡ part_size v.packet →
    full_packet t v (octet ∷ []) 0 ≡ packet_of t v.packets false v.pending
first_is t v octet full = grind (arith, nat_tests, zero-mul, take_at, false, add-zero)

pub goes_on_past : {t : Text} {p q : Outside} {v u w : Progress} → IsOpen t v → (octet : ℕ) → length v.pending ≡ part_size v.packet →
    PacketOut p q v u (Begun (text_at t 1)) (packet_of t v.packets false v.pending) → w ≡ record u { pending = u.pending ++ octet ∷ [] } →
    Continues t p q v w (octet ∷ [])
unfolding first_packets
goes_on_past {t = t} {p = p} {q = q} {v = v} {u = u} {w = w} going octet full sent e = grind (arith, nat_tests, one_full, append-nil, first_is, length, drop_at)

pub breaks_off_at : {t : Text} {p q : Outside} {v w : Progress} → IsOpen t v → (octet : ℕ) → length v.pending ≡ part_size v.packet →
    PacketFailed p q v w (packet_of t v.packets false v.pending) → StopsEarly t p q v w (octet ∷ [])
unfolding first_packets
breaks_off_at {t = t} {p = p} {q = q} {v = v} {w = w} going octet full failed =
    let packet = packet_of t v.packets false v.pending in
    record {
      count = 0;
      few = omega (arith, one_full going octet full);
      some = failed.some;
      out = subst (λ packet. Exchange p q [] (take failed.some packet) [] NoRead) (sym (first_is t v octet full)) failed.out;
      rose = failed.rose;
      valid = failed.valid ∙ sym (same_progress {v = broken t v (octet ∷ []) 0} {w = record v { stage = Broken; pending = [] }} refl refl refl
          (add-zero v.packets) (add-zero v.octets) refl);
    }
