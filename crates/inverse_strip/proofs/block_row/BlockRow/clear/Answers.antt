use Rattle.inverse_strip.proofs.CellLemmas.{number-zero}
use Rattle.inverse_strip.proofs.block_row.BlockRow.clear.Goals as goal

pub returns-clause-zero : goal.returns-clause-zero
returns-clause-zero c = λ p. number-zero c.args.self.now.columns p _ c.clear.ensures.zero
