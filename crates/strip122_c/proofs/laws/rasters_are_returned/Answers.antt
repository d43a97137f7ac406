use Rattle.strip122_c.proofs.RasterBack.{is_returned}
use Rattle.strip122_c.proofs.laws.rasters_are_returned.Goals as goal

pub returns : goal.returns
returns c = record { back = is_returned }
