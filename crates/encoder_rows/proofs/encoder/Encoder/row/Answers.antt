use Rattle.std.proofs.Common.{ℕ, ◌++◌, length, refl}
use Rattle.encoder_rows.proofs.Opening.{open_with, refused_open, row_enough, rows_after, value_refuses}
use Rattle.encoder_rows.proofs.encoder.Encoder.row.Goals as goal

pub take_row-requires-clause-room : goal.take_row-requires-clause-room
take_row-requires-clause-room c = row_enough c.args.self.now c.requires.open

pub returns-in-Err-take_row-clause-open : goal.returns-in-Err-take_row-clause-open
returns-in-Err-take_row-clause-open c =
    let e = c.args.self.now in
    let admits = c.in_default.ensures in
    let refused = value_refuses ℕ e c.args.octets.now (length c.args.room.now) c.take_row.new.work c.take_row.new.packets.kept.items
    c.in-Err-take_row.refusal admits.0 admits.1 admits.2 c.in-Err-take_row.ensures.takes in
    refused_open e _ c.requires.open refl refused.0 c.take_row.ensures.row c.take_row.ensures.room

pub returns-clause-open : goal.returns-clause-open
returns-clause-open c =
    let e = c.args.self.now in
    let now = c.requires.open in
    let takes = c.in_default-take_row.ensures.takes in
    let packets = c.take_row.new.packets.kept.items in
    open_with e _ (now.taken ++ c.args.octets.now) (now.given ++ packets) now.usable refl refl now c.take_row.ensures.row c.take_row.ensures.room
    (rows_after e.setting c.args.octets.now packets now.taken now.given e.work c.take_row.new.work takes.2 takes.3 now.rows)

pub returns-clause-answers : goal.returns-clause-answers
returns-clause-answers c =
    let e = c.args.self.now in
    let admits = c.in_default.ensures in
    let takes = c.in_default-take_row.ensures.takes in
    let packets = c.take_row.new.packets.kept.items in
    record {
      place = admits.0;
      whole = admits.1;
      in_range = takes.0;
      enough = admits.2;
      packets = packets;
      count_is = c.put.ensures.count;
      room = c.put.ensures.room;
      setting = refl;
      rows = λ taken given has. rows_after e.setting c.args.octets.now packets taken given e.work c.take_row.new.work takes.2 takes.3 has;
    }
