use Rattle.std.proofs.Common.{◌+◌, ◌-◌, ◌*◌, ◌/◌, ◌∙◌, sym, ap}
use Rattle.encoder_rows.specs.Room.{text_room}
use Rattle.encoder_rows.proofs.SegmentRoom.{segment_room-is}
use Rattle.encoder_rows.proofs.room.segment_room.Goals as goal

pub returns-clause-value : goal.returns-clause-value
returns-clause-value c =
    let s = c.args.setting.now in
    ap (λ t. t + 30 * ((t + (c.from-part.result - 24) - 1) / (c.from-part.result - 24))) c.text_room-text.ensures.value
    ∙ ap (λ p. text_room s + 30 * ((text_room s + (p - 24) - 1) / (p - 24))) c.from-part.ensures ∙ sym (segment_room-is s)
