use Rattle.std.proofs.Common.{[], arith, refl}
use Rattle.encoder_rows.specs.Answers.{with_image}
use Rattle.encoder_rows.proofs.EndSteps.{none_rows, usable_image}
use Rattle.encoder_rows.proofs.Opening.{end_enough, open_with, same_room}
use Rattle.encoder_rows.proofs.encoder.Encoder.end.Goals as goal

pub end_image-done-requires-clause-room : goal.end_image-done-requires-clause-room
end_image-done-requires-clause-room c = end_enough c.args.self.now c.requires.open c.in_default.ensures.0

pub start_image-requires-clause-in_range : goal.start_image-requires-clause-in_range
start_image-requires-clause-in_range c =
    let image = c.ranges.image.fits in
    (usable_image c.args.self.now.setting c.args.image (omega (arith, image)) c.requires.open.usable).in_range

pub returns-clause-open : goal.returns-clause-open
returns-clause-open c =
    let e = c.args.self.now in
    let image = c.ranges.image.fits in
    let usable = usable_image e.setting c.args.image (omega (arith, image)) c.requires.open.usable in
    open_with e _ [] [] usable refl (same_room e.setting c.args.image) c.requires.open c.requires.open.row c.end_image-done.ensures.room
    (none_rows (with_image e.setting c.args.image) c.start_image.new.work usable.in_range c.start_image.ensures.start)

pub returns-clause-answers : goal.returns-clause-answers
returns-clause-answers c =
    let e = c.args.self.now in
    let image = c.ranges.image.fits in
    let usable = usable_image e.setting c.args.image (omega (arith, image)) c.requires.open.usable in
    record {
      complete = c.in_default.ensures.0;
      enough = c.in_default.ensures.1;
      packets = c.end_image-done.new.packets.kept.items;
      count_is = c.put-octets.ensures.count;
      room = c.put-octets.ensures.room;
      all = c.end_image-done.ensures.gives.all;
      setting = refl;
      none = none_rows (with_image e.setting c.args.image) c.start_image.new.work usable.in_range c.start_image.ensures.start;
    }
