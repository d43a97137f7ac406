use Rattle.plane_defs.proofs.PlanesSent.{planes_sent}
use Rattle.plane_defs.proofs.scripts.planes_are_read.Goals as goal

pub returns : goal.returns
returns c = λ book options chosen values depths weights sendable q stages stops below blocks long shown.
    planes_sent book options chosen values depths weights sendable q stages stops below blocks long shown
