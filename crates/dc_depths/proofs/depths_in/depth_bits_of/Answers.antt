use Rattle.std.proofs.Common.{arith}
use Rattle.number_defs.proofs.DepthBits.{depth_bits_are}
use Rattle.dc_depths.proofs.depths_in.depth_bits_of.Goals as goal

pub returns-in-0-to-3-clause-is : goal.returns-in-0-to-3-clause-is
returns-in-0-to-3-clause-is c = depth_bits_are c.args.depth_ac 2 (omega arith) (omega arith) (omega arith) (omega arith)

pub returns-in-4-to-7-clause-is : goal.returns-in-4-to-7-clause-is
returns-in-4-to-7-clause-is c = depth_bits_are c.args.depth_ac 3 (omega arith) (omega arith) (omega arith) (omega arith)

pub returns-in-8-to-15-clause-is : goal.returns-in-8-to-15-clause-is
returns-in-8-to-15-clause-is c = depth_bits_are c.args.depth_ac 4 (omega arith) (omega arith) (omega arith) (omega arith)

pub returns-in_default-clause-is : goal.returns-in_default-clause-is
returns-in_default-clause-is c = depth_bits_are c.args.depth_ac 5 (omega arith) (omega arith) (omega arith) (omega arith)
