use Rattle.std.proofs.Common.{arith}
use Rattle.bit_pipe.proofs.PrefixTaking.{known_first}
use Rattle.bit_pipe.proofs.bit_in.BitIn.take_prefix.Goals as goal

pub returns : goal.returns
returns g c = λ most item reports. known_first reports c.in-Some.window (omega arith) c.take_window.ensures
