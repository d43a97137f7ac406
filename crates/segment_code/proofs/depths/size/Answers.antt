use Rattle.segment_code.proofs.SizeBits.{size-leading_zeros}
use Rattle.segment_code.proofs.depths.size.Goals as goal

pub returns-clause-is : goal.returns-clause-is
returns-clause-is c = size-leading_zeros c.args.number c.ranges.number.fits
