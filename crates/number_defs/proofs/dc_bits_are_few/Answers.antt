use Rattle.number_defs.proofs.DcBits.{few_bits}
use Rattle.number_defs.proofs.DcRange.{dc_fits}
use Rattle.number_defs.proofs.dc_bits_are_few.Goals as goal

pub returns : goal.returns
returns c = record { bits = few_bits; fit = dc_fits }
