use Rattle.encoder_rows.proofs.SegmentRoom.{all_few}
use Rattle.encoder_rows.proofs.laws.outputs_fit.Goals as goal

pub returns : goal.returns
returns c = record { fits = λ s rows x usable height pixels. all_few s usable rows height x pixels }
