use Rattle.std.proofs.lemmas.Bool.Decides.{nat_tests}
use Rattle.std.proofs.Common.{arith}
use Rattle.camera_mux.proofs.muxing.begin.Goals as goal

pub returns : goal.returns
returns c = grind (arith, nat_tests)
