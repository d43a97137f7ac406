use Rattle.strip122.proofs.TrialsDone.{are_equal, has_picture, picture_size}
use Rattle.strip122.proofs.trial.count_decoded.Goals as goal

pub count_equal-requires-clause-given : goal.count_equal-requires-clause-given
count_equal-requires-clause-given c =
    let s = c.args.setting.now in
    picture_size s c.args.packets.now c.given.result.now
    (has_picture s c.args.raster.now c.args.packets.now c.given.result.now _ _ c.in_ok-port.port _ c.texts_are_short.ensures c.heights_are_known.ensures
    c.requires.range c.requires.height c.requires.book c.ten_weights.ensures
    c.requires.raster c.requires.packets c.in_ok-port.ensures c.in_ok-decode.ensures c.given.ensures)

pub returns : goal.returns
returns c =
    let s = c.args.setting.now in
    are_equal s c.args.raster.now c.args.packets.now c.given.result.now c.count_equal.result c.requires.range
    (has_picture s c.args.raster.now c.args.packets.now c.given.result.now _ _ c.in_ok-port.port _ c.texts_are_short.ensures c.heights_are_known.ensures
    c.requires.range c.requires.height c.requires.book c.ten_weights.ensures
    c.requires.raster c.requires.packets c.in_ok-port.ensures c.in_ok-decode.ensures c.given.ensures) c.count_equal.ensures
