use Rattle.std.proofs.Common.{rules}
use Rattle.lift_rows.proofs.Fits.{odd_of-small}
use Rattle.wave_tests.proofs.lines.join_narrow_lists.Goals as goal

pub inverse_row_narrow-requires-clause-fits : goal.inverse_row_narrow-requires-clause-fits
inverse_row_narrow-requires-clause-fits c = odd_of-small _ _ _ (search rules) (search rules) (search rules)
