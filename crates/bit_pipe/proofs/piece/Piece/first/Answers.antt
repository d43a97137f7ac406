use Rattle.std.proofs.Common.{arith}
use Rattle.bit_pipe.proofs.PieceSteps.{first_bits}
use Rattle.bit_pipe.proofs.piece.Piece.first.Goals as goal

pub returns-clause-bits : goal.returns-clause-bits
returns-clause-bits c = first_bits c.args.octet c.from.result c.args.left c.args.count c.from.ensures (omega arith) c.requires.count
