use Rattle.std.proofs.Common.{◌∙◌, ap, get_or, map}
use Rattle.command_words.specs.Tables.{no_row}
use Rattle.command_words.specs.declared.tables.TheConstants.{KEYS}
use Rattle.command_words.proofs.KeyTables.{rows_are_listed}
use Rattle.command_words.proofs.tables.Key.row.Goals as goal

pub returns : goal.returns
returns c = c.entry_at.ensures.row ∙ ap (λ place. get_or (map (λ entry. entry.1) KEYS) place no_row) c.place.ensures ∙ rows_are_listed c.args.self
