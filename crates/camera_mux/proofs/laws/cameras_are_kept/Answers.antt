use Rattle.camera_mux.proofs.CameraAlone.{keeps_camera}
use Rattle.camera_mux.proofs.laws.cameras_are_kept.Goals as goal

pub returns : goal.returns
returns c = record { each = keeps_camera }
