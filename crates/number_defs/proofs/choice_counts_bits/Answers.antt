use Rattle.number_defs.proofs.CodedBits.{counts_bits}
use Rattle.number_defs.proofs.choice_counts_bits.Goals as goal

pub returns : goal.returns
returns c = record { counts = counts_bits }
