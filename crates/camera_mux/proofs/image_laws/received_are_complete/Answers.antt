use Rattle.camera_mux.proofs.Completes.{counts_complete}
use Rattle.camera_mux.proofs.image_laws.received_are_complete.Goals as goal

pub returns : goal.returns
returns c = record { each = counts_complete }
