use Rattle.picture_rows.specs.Pictures.{picture_state}
use Rattle.picture_rows.proofs.Ends.{has_ended}
use Rattle.picture_rows.proofs.picture.Picture.end_at.Goals as goal

pub returns : goal.returns
returns c =
    let e = c.end_at.ensures in
    has_ended (picture_state c.args.self.now) c.args.rows c.padded_rows.result c.end_at.new.self c.requires.current c.requires.range c.requires.fewer
    c.requires.more c.padded_rows.ensures
    (record { height = e.height; width = e.width; taken = e.taken; next = e.given; numbers = e.numbers; follows = e.follows })
