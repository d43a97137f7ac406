use Rattle.camera_mux.proofs.ImageSizes.{have_geometry}
use Rattle.camera_mux.proofs.image_laws.images_have_geometry.Goals as goal

pub returns : goal.returns
returns c = record { each = have_geometry }
