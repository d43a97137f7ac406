use Rattle.std.proofs.Common.{◌∙◌}
use Rattle.strip122.proofs.NoteLines.{word_is}
use Rattle.strip122.proofs.notes.word.Goals as goal

pub returns : goal.returns
returns c = c.as_str.ensures.value ∙ word_is c.args.words.now c.args.place c.index-words-place.result c.requires c.index-words-place.is
