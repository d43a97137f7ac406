use Rattle.number_defs.proofs.MappingLaws.{mapped_back, unmapped_back, mapped_below, unmapped_below}
use Rattle.number_defs.proofs.mapping_undoes.Goals as goal

pub returns : goal.returns
returns c = record { back = mapped_back; again = unmapped_back; value = mapped_below; number = unmapped_below }
