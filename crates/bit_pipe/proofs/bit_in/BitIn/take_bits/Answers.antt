use Rattle.std.proofs.Common.{arith}
use Rattle.bit_pipe.proofs.WindowBits.{number_small, number_taken}
use Rattle.bit_pipe.proofs.bit_in.BitIn.take_bits.Goals as goal

pub overflow_cast-result-2 : goal.overflow_cast-result-2
overflow_cast-result-2 g c = omega (arith, number_small c.in-Some.window c.args.count (omega arith) c.requires.count)

pub returns : goal.returns
returns g c = record { ends = number_taken c.in-Some.window c.args.count (omega arith) c.requires.count c.take_window.ensures }
