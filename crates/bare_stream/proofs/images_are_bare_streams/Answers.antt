use Rattle.bare_stream.proofs.ImageTexts.{images_are_streams}
use Rattle.bare_stream.proofs.images_are_bare_streams.Goals as goal

pub returns : goal.returns
returns c = images_are_streams c.bare_texts_hold.ensures c.bare_heads_undo.ensures c.bare_heads_end_there.ensures c.texts_end_there.ensures
    c.bare_streams_end_there.ensures
