use Rattle.std.proofs.Common.{◌∙◌, ap, get_or}
use Rattle.std.proofs.Common.{[], map}
use Rattle.command_words.specs.declared.tables.TheConstants.{KEYS}
use Rattle.command_words.proofs.KeyTables.{texts_are_listed}
use Rattle.command_words.proofs.tables.Key.text.Goals as goal

pub returns : goal.returns
returns c = c.entry_at.ensures.name ∙ ap (λ place. get_or (map (λ entry. entry.0.now) KEYS) place []) c.place.ensures ∙ texts_are_listed c.args.self
