use Rattle.encoder_rows.proofs.Reach.{row_fits, end_fits}
use Rattle.encoder_rows.proofs.laws.rooms_are_enough.Goals as goal

pub returns : goal.returns
returns c = record { rows = λ s k range. row_fits s range k; ends = λ s k range within. end_fits s range k within }
