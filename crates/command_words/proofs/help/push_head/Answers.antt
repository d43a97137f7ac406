use Rattle.std.proofs.Common.{sym, subst}
use Rattle.command_words.specs.declared.tables.KeyRow.{KeyRow}
use Rattle.command_words.specs.Values.{form_of, HasForm}
use Rattle.command_words.proofs.HelpTexts.{defaults_have_forms}
use Rattle.command_words.proofs.help.push_head.Goals as goal

pub push_default-requires : goal.push_default-requires
push_default-requires c = subst (λ (row : KeyRow). HasForm (form_of row.default) row.default) (sym c.row-2.ensures) (defaults_have_forms c.args.key)
