use Rattle.std.proofs.Common.{◌∙◌, ap, get_or, map, []}
use Rattle.command_words.specs.declared.tables.TheConstants.{KEYS}
use Rattle.command_words.proofs.tables.Key.meaning.Goals as goal

pub returns : goal.returns
returns c = c.entry_at.ensures.meaning ∙ ap (λ place. get_or (map (λ entry. entry.2.now) KEYS) place []) c.place.ensures
