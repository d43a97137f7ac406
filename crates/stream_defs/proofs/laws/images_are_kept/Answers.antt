use Rattle.stream_defs.proofs.WholeStreams.{all_kept}
use Rattle.stream_defs.proofs.laws.images_are_kept.Goals as goal

pub returns : goal.returns
returns c = record { all_kept = all_kept }
