use Rattle.std.proofs.Common.{vec_len, arith}
use Rattle.std.proofs.lemmas.Option.{slice_get_read}
use Rattle.std.proofs.lemmas.Grind.{common_steps}
use Rattle.wave_plain.proofs.InverseLemmas.{image_at}
use Rattle.wave_plain.proofs.plane_of.Goals as goal

pub returns : goal.returns
returns c = grind (arith, common_steps, slice_get_read, vec_len, image_at)
