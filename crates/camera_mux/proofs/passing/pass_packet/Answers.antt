use Rattle.std.proofs.Common.{◌≡◌, ◌+◌, ◌%◌, length, sym, ap, subst, ◌∙◌, arith, None, true}
use Rattle.std.proofs.lemmas.Grind.{common_steps}
use Rattle.packet_defs.specs.declared.packet.PacketHead.{PacketHead}
use Rattle.packet_defs.specs.Reading.{apid_in, skip_of}
use Rattle.packet_defs.specs.Streams.{first_packet}
use Rattle.packet_defs.proofs.Prefixes.{begins_so, first_is_packet}
use Rattle.space_packets.specs.Intake.{answered}
use Rattle.space_packets.proofs.Verdicts.{mine_read}
use Rattle.camera_mux.specs.Images.{is_wanted}
use Rattle.camera_mux.specs.Tables.{CanCount}
use Rattle.camera_mux.proofs.PacketReads.{apid_so, packet_long, no_fault, other_skip, skipped_passes, image_passes, image_said, text_so, length_known}
use Rattle.camera_mux.proofs.passing.pass_packet.Goals as goal

pub read_u16-requires : goal.read_u16-requires
read_u16-requires c = rw c.octets.ensures (let long = packet_long c.args.reader.now.pending c.requires.whole in omega (arith, long))

pub returns-in_default-clause-passed : goal.returns-in_default-clause-passed
returns-in_default-clause-passed c = absurd (no_fault _ c.args.reader.now c.in_default.field-0 c.requires.whole (rw c.in_default.is at c.answer.ensures.answer))

pub returns-in_default-read : goal.returns-in_default-read
returns-in_default-read c = grind (arith, common_steps, apid_so, other_skip, skipped_passes)

pub pass_image-requires-clause-room : goal.pass_image-requires-clause-room
pass_image-requires-clause-room c =
    let u = c.args.reader.now in
    let packet = first_packet u.pending in
    let mine = mine_read (c.read_u16.result % 2048) u c.in-Mine.head c.in-Mine.ancillary (rw (c.in-Ok.is, c.in-Mine.is) at c.answer.ensures.answer) in
    let size : length packet ≡ 6 + c.in-Mine.head.length = length_known packet (first_is_packet (begins_so u.pending c.requires.whole))
    ∙ ap (λ (h : PacketHead). 6 + h.length) (sym mine.head_is) in
    subst (CanCount c.args.table.now.entries.items) size c.requires.room

pub returns-clause-passed : goal.returns-clause-passed
returns-clause-passed c =
    let u = c.args.reader.now in
    let packet = first_packet u.pending in
    let apid : c.read_u16.result % 2048 ≡ apid_in packet = apid_so c.octets.result.now packet c.read_u16.result c.octets.ensures c.read_u16.ensures in
    let if_known = rw (c.in-Ok.is, c.in-Mine.is) at c.answer.ensures.answer in
    let mine = mine_read (c.read_u16.result % 2048) u c.in-Mine.head c.in-Mine.ancillary if_known in
    let own : skip_of (apid_in packet) packet ≡ None = subst (λ a. skip_of a packet ≡ None) apid mine.mine in
    let wanted : is_wanted c.args.wanted (apid_in packet) ≡ true = ap (is_wanted c.args.wanted) (sym apid) ∙ sym c.is_wanted.ensures
    ∙ c.if-not-is_wanted.false in
    let text = c.text.ensures ∙ text_so (apid_in packet) u c.answer.new.self c.requires.whole own (c.answer.ensures.valid ∙ ap (λ a. answered a u) apid) in
    image_passes c.args.wanted c.args.table.now.entries.items c.pass_image.new.table.entries.items packet c.pass_image.result wanted own
    (image_said c.args.table.now.entries.items c.pass_image.new.table.entries.items packet c.in-Mine.head c.in-Mine.ancillary c.text.result.now
    c.pass_image.result
    (first_is_packet (begins_so u.pending c.requires.whole)) mine.head_is mine.ancillary_is text c.pass_image.ensures.passed)
