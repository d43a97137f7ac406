use Rattle.std.proofs.Common.{List, [], ℕ, ◌≡◌, ◌≤◌, ◌+◌, ◌-◌, length, take, drop, sym, ap, ◌∙◌, arith, length-take, length-take-le, slice_range, true}
use Rattle.std.proofs.lemmas.Grind.{common_steps}
use Rattle.packet_defs.specs.Streams.{reported_length, begins_packet, first_packet}
use Rattle.packet_defs.specs.Reading.{skip_of}
use Rattle.space_packets.specs.Held.{intake}
use Rattle.packet_defs.proofs.Prefixes.{begins_so, first_is_packet}
use Rattle.space_packets.proofs.Intakes.{read_skipped, read_mine, passed_mine, passed_other, waits_past, text_waits}
use Rattle.space_packets.proofs.packet_reader.PacketReader.take_packet.Goals as goal

pub reported_length-length-requires : goal.reported_length-length-requires
reported_length-length-requires c = rw c.pending.ensures.waiting (begins_so _ c.requires.whole).header

pub slice_bounds-packet-end : goal.slice_bounds-packet-end
slice_bounds-packet-end c =
    let whole = (begins_so _ c.requires.whole).whole in
    let if_known = c.reported_length-length.ensures.value ∙ ap reported_length c.pending.ensures.waiting in
    let long = ap length c.pending-2.ensures.waiting in
    sym (length-take-le c.reported_length-length.result c.pending-2.result.now (omega (arith, whole, if_known, long)))

pub skip_of-requires : goal.skip_of-requires
skip_of-requires c =
    let if_known = c.reported_length-length.ensures.value ∙ ap reported_length c.pending.ensures.waiting in
    rw (c.pending-2.ensures.waiting, if_known) (first_is_packet (begins_so _ c.requires.whole)).whole

-- the packet, and its length
packet_is : (pending was octets : List ℕ) (if_known : ℕ) → octets ≡ pending → if_known ≡ reported_length was → was ≡ pending →
    take if_known octets ≡ first_packet pending
packet_is pending was octets if_known now is before = ap (take if_known) now ∙ ap (λ n. take n pending) (is ∙ ap reported_length before)

-- what waits is long enough
long_enough : (xs : List ℕ) (start end if_known : ℕ) → if_known ≤ length (slice_range xs start end) → start ≤ end → start + if_known ≤ end
long_enough xs start end if_known fits order = omega (arith, length-take (end - start) (drop start xs))

pub invariant_of-self : goal.invariant_of-self
invariant_of-self c =
    let if_known = c.reported_length-length.ensures.value ∙ ap reported_length c.pending.ensures.waiting in
    let whole = rw (← if_known, ← c.self.view_is) at (begins_so _ c.requires.whole).whole in
    let order = long_enough c.self.inside.buffer.items c.self.inside.start c.self.inside.end c.reported_length-length.result whole c.self.invariant.order in
    record {
      room = c.self.invariant.room;
      order = order;
      within = c.self.invariant.within;
      text_order = c.self.invariant.text_order;
      text_within = c.self.invariant.text_within;
      counted = omega (arith, c.self.invariant.counted);
      capped = c.self.invariant.capped;
    }

pub invariant_of-self-2 : goal.invariant_of-self-2
invariant_of-self-2 c =
    let if_known = c.reported_length-length.ensures.value ∙ ap reported_length c.pending.ensures.waiting in
    let whole = rw (← if_known, ← c.self.view_is) at (begins_so _ c.requires.whole).whole in
    let order = long_enough c.self.inside.buffer.items c.self.inside.start c.self.inside.end c.reported_length-length.result whole c.self.invariant.order in
    let long = c.in_default.ensures.long in
    record {
      room = c.self.invariant.room;
      order = order;
      within = c.self.invariant.within;
      text_order = omega (arith, long, length-take c.reported_length-length.result c.pending-2.result.now);
      text_within = omega (arith, order, c.self.invariant.within);
      counted = omega (arith, c.self.invariant.counted);
      capped = c.self.invariant.capped;
    }

pub returns-in-Some-clause-read : goal.returns-in-Some-clause-read
returns-in-Some-clause-read c = grind (arith, common_steps, packet_is, read_skipped)

pub returns-in-Some-clause-valid : goal.returns-in-Some-clause-valid
returns-in-Some-clause-valid c =
    let v = intake c.self.inside in
    let waits : c.pending.result.now ≡ v.pending = c.pending.ensures.waiting ∙ ap (λ w. w.pending) (sym c.self.view_is) in
    let waits_still : c.pending-2.result.now ≡ v.pending = c.pending-2.ensures.waiting ∙ ap (λ w. w.pending) (sym c.self.view_is) in
    let if_known : c.reported_length-length.result ≡ reported_length v.pending = c.reported_length-length.ensures.value ∙ ap reported_length waits in
    let packet = packet_is v.pending c.pending.result.now c.pending-2.result.now c.reported_length-length.result waits_still
    c.reported_length-length.ensures.value
    waits in
    let whole : begins_packet v.pending ≡ true = rw (← c.self.view_is) at c.requires.whole in
    let no_text : v.text ≡ [] = rw (← c.self.view_is) at c.requires.no_text in
    let fits = rw (← if_known) at (begins_so v.pending whole).whole in
    let order = long_enough c.self.inside.buffer.items c.self.inside.start c.self.inside.end c.reported_length-length.result fits c.self.invariant.order in
    rw (← c.self.view_is)
    (passed_other c.args.apid v v.text _ c.in-Some.skip whole (sym (ap (skip_of c.args.apid) packet) ∙ sym c.in-Some.ensures.value)
    (waits_past c.self.inside.buffer.items c.self.inside.start c.self.inside.end c.reported_length-length.result order ∙ ap (λ n. drop n v.pending)
    if_known) no_text)

pub returns-clause-read : goal.returns-clause-read
returns-clause-read c = grind (arith, common_steps, packet_is, read_mine)

pub returns-clause-valid : goal.returns-clause-valid
returns-clause-valid c =
    let v = intake c.self.inside in
    let waits : c.pending.result.now ≡ v.pending = c.pending.ensures.waiting ∙ ap (λ w. w.pending) (sym c.self.view_is) in
    let waits_still : c.pending-2.result.now ≡ v.pending = c.pending-2.ensures.waiting ∙ ap (λ w. w.pending) (sym c.self.view_is) in
    let if_known : c.reported_length-length.result ≡ reported_length v.pending = c.reported_length-length.ensures.value ∙ ap reported_length waits in
    let packet = packet_is v.pending c.pending.result.now c.pending-2.result.now c.reported_length-length.result waits_still
    c.reported_length-length.ensures.value
    waits in
    let whole : begins_packet v.pending ≡ true = rw (← c.self.view_is) at c.requires.whole in
    let fits = rw (← if_known) at (begins_so v.pending whole).whole in
    let order = long_enough c.self.inside.buffer.items c.self.inside.start c.self.inside.end c.reported_length-length.result fits c.self.invariant.order in
    let long = c.in_default.ensures.long in
    let prefix : 30 ≤ c.reported_length-length.result = omega (arith, long, length-take c.reported_length-length.result c.pending-2.result.now) in
    rw (← c.self.view_is)
    (passed_mine c.args.apid v _ _ whole (sym (ap (skip_of c.args.apid) packet) ∙ sym c.in_default.ensures.value)
    (waits_past c.self.inside.buffer.items c.self.inside.start c.self.inside.end c.reported_length-length.result order ∙ ap (λ n. drop n v.pending) if_known)
    (text_waits c.self.inside.buffer.items c.self.inside.start c.self.inside.end 30 c.reported_length-length.result order prefix ∙
    ap (λ n. drop 30 (take n v.pending)) if_known))
