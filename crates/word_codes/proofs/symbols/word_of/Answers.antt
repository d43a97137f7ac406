use Rattle.std.proofs.Common.{arith}
use Rattle.plane_defs.proofs.SymbolTables.{word_at_two, word_at_three, word_at_four}
use Rattle.word_codes.proofs.symbols.word_of.Goals as goal

pub returns-in-2-clause-value : goal.returns-in-2-clause-value
returns-in-2-clause-value c = word_at_two c.args.length c.args.place (omega arith) c.requires.fits

pub returns-in-3-clause-value : goal.returns-in-3-clause-value
returns-in-3-clause-value c = word_at_three c.args.length c.args.place (omega arith) c.requires.fits

pub returns-in_default-clause-value : goal.returns-in_default-clause-value
returns-in_default-clause-value c = word_at_four c.args.length c.args.place (omega arith) c.requires.fits
