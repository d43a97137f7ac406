use Rattle.strip_coder.proofs.RowsGiven.{given_all}
use Rattle.strip_coder.proofs.laws.last_row_settles_all.Goals as goal

pub returns : goal.returns
returns c = record { all = given_all }
