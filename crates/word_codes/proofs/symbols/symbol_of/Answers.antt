use Rattle.std.proofs.Common.{arith, ◌≡◌}
use Rattle.plane_defs.proofs.SymbolTables.{symbol-of_two, symbol-of_three, symbol-of_four}
use Rattle.word_codes.proofs.symbols.symbol_of.Goals as goal

pub returns-in-2-clause-value : goal.returns-in-2-clause-value
returns-in-2-clause-value c = grind (arith, symbol-of_two)

pub returns-in-3-clause-value : goal.returns-in-3-clause-value
returns-in-3-clause-value c = grind (arith, symbol-of_three)

pub returns-in_default-clause-value : goal.returns-in_default-clause-value
returns-in_default-clause-value c = let four : c.args.length ≡ 4 = omega arith in grind (arith, symbol-of_four)
