-- What holds of a packetiser's fields is preserved.
use Rattle.std.proofs.lemmas.Bool.Decides.{nat_tests}
use Rattle.std.proofs.Common.{◌≡◌, ◌≤◌, ◌<◌, ◌+◌, ◌-◌, ◌*◌, ◌^◌, ℕ, length, ap, sym, subst, arith, Bool, true, false, if◌then◌else◌, vec_capacity}
use Rattle.std.proofs.Common.{mul-le-mul_left}
use Rattle.std.specs.Bool.{OnFalse}
use Rattle.std.specs.Global.{Vec}
use Rattle.packet_defs.specs.Packets.{part_size}
use Rattle.space_packets.specs.declared.packetiser.Packetiser.TheInside.{Inside}
use Rattle.space_packets.specs.declared.stage.PacketiserState.{PacketiserState}
use Rattle.space_packets.specs.declared.stage.PacketiserState.TheVariants.{Idle, Begun}
use Rattle.space_packets.specs.declared.stage.Text.{Text}
use Rattle.space_packets.specs.Parts.{text_at}
use Rattle.space_packets.specs.Stages.{room_of, given_in}
use Rattle.space_packets.specs.Inside.{IsSound}
use Rattle.space_packets.proofs.Buffers.{given_count, given_room}

-- what is known of the numbers of a begun text
record Known (a : Inside) (t : Text) : Type 0 where
  apid : t.apid < 2 ^ 11
  begun : 1 ≤ a.texts
  size : 40 ≤ part_size a.packet
  text : t.ancillary.part * part_size a.packet + (length a.buffer.items - 30) ≤ 2 ^ 32
  few : t.ancillary.part * 40 ≤ 2 ^ 32
  packets : a.packets + 2 ^ 32 ≤ a.texts * 2 ^ 32 + t.ancillary.part
  octets : a.octets + 2 ^ 34 ≤ a.texts * 2 ^ 34 + 2 * (t.ancillary.part * part_size a.packet)

known : (a : Inside) (t : Text) → IsSound a → a.stage ≡ Begun t → Known a t
known a t sound e = grind (arith, nat_tests, length, mul-le-mul_left)

-- after this number of further octets
pub sound_more : (a : Inside) (buffer : Vec ℕ) (count : ℕ) → IsSound a → 0 < count → length a.buffer.items - 30 + count ≤ part_size a.packet →
    given_in a.stage (part_size a.packet) (length a.buffer.items - 30) + count ≤ 2 ^ 32 →
    length buffer.items ≡ length a.buffer.items + count → vec_capacity a.buffer ≤ vec_capacity buffer → IsSound (record a { buffer = buffer })
sound_more a buffer count sound some room fits long same = grind (arith, nat_tests, length, given_count, given_room)

-- after a part is written
pub sound_past : (a : Inside) (t : Text) (last : Bool) (s : PacketiserState) (octets : ℕ) (buffer : Vec ℕ) → IsSound a → a.stage ≡ Begun t →
    OnFalse last (length a.buffer.items - 30 ≡ part_size a.packet) → s ≡ (if last then Idle else Begun (text_at t 1)) → octets ≡ length a.buffer.items →
    length buffer.items ≡ 30 → vec_capacity buffer ≡ vec_capacity a.buffer →
    IsSound (record a { buffer = buffer; stage = s; packets = a.packets + 1; octets = a.octets + octets })
sound_past a t true s octets buffer sound e full next long cut same =
    let k = known a t sound e in
    let end : IsSound (record a { buffer = buffer; stage = Idle; packets = a.packets + 1; octets = a.octets + octets }) = record {
      least = sound.least;
      most = sound.most;
      room = omega (arith, sound.room, same);
      header = omega (arith, cut);
      pending = omega (arith, cut);
      apid = omega arith;
      texts = sound.texts;
      begun = omega arith;
      text = omega (arith, cut);
      packets = omega (arith, k.packets, k.few);
      octets = omega (arith, k.octets, k.text, long, sound.pending, sound.most, ap (λ s. room_of s (part_size a.packet)) e);
    } in
    subst (λ s. IsSound (record a { buffer = buffer; stage = s; packets = a.packets + 1; octets = a.octets + octets })) (sym next) end
sound_past a t false s octets buffer sound e full next long cut same =
    let k = known a t sound e in
    let end : IsSound (record a { buffer = buffer; stage = Begun (text_at t 1); packets = a.packets + 1; octets = a.octets + octets }) = record {
      least = sound.least;
      most = sound.most;
      room = omega (arith, sound.room, same);
      header = omega (arith, cut);
      pending = omega (arith, cut);
      apid = k.apid;
      texts = sound.texts;
      begun = k.begun;
      text = omega (arith, cut, k.text, full);
      packets = omega (arith, k.packets);
      octets = omega (arith, k.octets, long, full, k.size, sound.header);
    } in
    subst (λ s. IsSound (record a { buffer = buffer; stage = s; packets = a.packets + 1; octets = a.octets + octets })) (sym next) end
