use Rattle.std.proofs.Common.{arith}
use Rattle.plane_defs.proofs.SymbolTables.{names_no_option}
use Rattle.word_codes.proofs.take.option_named.Goals as goal

pub returns-then-number-eq2 : goal.returns-then-number-eq2
returns-then-number-eq2 c = names_no_option c.args.length c.args.number (omega arith) (omega arith)
