use Rattle.std.proofs.Common.{◌≡◌, ◌++◌, take, string_bytes}
use Rattle.std.specs.List.{flat_map}
use Rattle.command_words.specs.Help.{name_if_own}
use Rattle.command_words.proofs.help.push_names.Given as goal

abbrev pub invariant-loop-row : goal.invariant-loop-row
invariant-loop-row l = string_bytes l.text ≡ string_bytes l.initial.text ++ flat_map (λ row. name_if_own l.key row.0.now row.2.now) (take l.row-index l.table)
