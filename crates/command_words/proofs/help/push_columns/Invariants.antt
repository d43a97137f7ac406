use Rattle.std.proofs.Common.{◌≡◌, ◌++◌, drop, map, string_bytes}
use Rattle.command_words.specs.Help.{columns}
use Rattle.command_words.proofs.help.push_columns.Given as goal

abbrev pub invariant-loop-row : goal.invariant-loop-row
invariant-loop-row l =
    string_bytes l.text ++ columns l.key l.column (map (λ row. (row.0.now, row.2.now)) (drop l.row-index l.table))
    ≡ string_bytes l.initial.text ++ columns l.key l.initial.column (map (λ row. (row.0.now, row.2.now)) l.table)
