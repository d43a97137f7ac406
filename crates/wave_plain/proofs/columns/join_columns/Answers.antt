use Rattle.std.proofs.Common.{arith}
use Rattle.std.proofs.lemmas.Grind.{common_steps}
use Rattle.wave_plain.proofs.JoinLemmas.{even_rows-within, merged_by_rows}
use Rattle.wave_plain.proofs.columns.join_columns.Goals as goal

pub join_odd_rows-requires-clause-even_bounded : goal.join_odd_rows-requires-clause-even_bounded
join_odd_rows-requires-clause-even_bounded c = grind (arith, common_steps, even_rows-within)

pub returns : goal.returns
returns c = grind (arith, common_steps, merged_by_rows)
