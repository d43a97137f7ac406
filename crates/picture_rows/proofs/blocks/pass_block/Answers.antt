use Rattle.picture_rows.specs.Pictures.{picture_state}
use Rattle.picture_rows.proofs.BlockPasses.{column_passed, rows_passed, columns_are, columns_end}
use Rattle.picture_rows.proofs.blocks.pass_block.Goals as goal

pub returns-then-picture-padded_width : goal.returns-then-picture-padded_width
returns-then-picture-padded_width g c =
    column_passed (picture_state c.args.picture.now) (g.X.Port.outside c.args.port.now) c.requires.current c.requires.room
    (columns_are c.args.picture.now.geometry c.padded_width.result c.padded_width.ensures c.if-picture-padded_width.true)

pub returns : goal.returns
returns g c =
    let e = c.push_row.ensures in
    rows_passed (picture_state c.args.picture.now) c.push_row.new.self c.requires.current c.requires.room
    (columns_end c.args.picture.now.geometry c.padded_width.result c.padded_width.ensures c.if-picture-padded_width.false)
    (record { height = e.height; width = e.width; taken = e.taken; next = e.given; zero = e.zero; follows = e.follows })
    c.give_rows.result (g.X.Port.outside c.args.port.now) (g.X.Port.outside c.give_rows.new.port) (picture_state c.give_rows.new.picture) c.give_rows.ensures
