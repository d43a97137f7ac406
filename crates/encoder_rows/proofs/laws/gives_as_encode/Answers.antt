use Rattle.encoder_rows.proofs.RowSteps.{as_encode}
use Rattle.encoder_rows.proofs.laws.gives_as_encode.Goals as goal

pub returns : goal.returns
returns c = record { same = λ taken given e range has more. as_encode e.setting range e.work.at.rows has.most taken given e.work has more }
