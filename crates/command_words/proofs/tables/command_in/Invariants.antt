use Rattle.std.proofs.Common.{◌≡◌, length, map}
use Rattle.command_words.specs.Tables.{command_in}
use Rattle.command_words.proofs.tables.command_in.Given as goal

abbrev pub invariant-loop-table : goal.invariant-loop-table
invariant-loop-table l = command_in (map (λ row. (row.0.now, row.1, row.2.now)) l.table) l.text
    ≡ command_in (map (λ row. (row.0.now, row.1, row.2.now)) l.initial.table) l.text

abbrev pub decreases-loop-table : goal.decreases-loop-table
decreases-loop-table l = length l.table
