use Rattle.std.proofs.Common.{◌≡◌}
use Rattle.code_book.specs.Reading.{table_from}
use Rattle.code_book.proofs.read.table_from.Given as goal

abbrev pub invariant-loop-symbol : goal.invariant-loop-symbol
invariant-loop-symbol l = l.codes ≡ table_from l.octets l.start l.symbol
