use Rattle.stream_defs.proofs.ImageLaws.{settled_rises, settled_whole}
use Rattle.stream_defs.proofs.HeightLaws.{images_settle, settled_alike}
use Rattle.stream_defs.proofs.laws.images_settle.Goals as goal
use Rattle.std.proofs.Common.{arith}
use Rattle.std.proofs.lemmas.Grind.{common_steps}

pub returns : goal.returns
returns c = grind (arith, common_steps, images_settle, settled_alike, settled_rises, settled_whole)
