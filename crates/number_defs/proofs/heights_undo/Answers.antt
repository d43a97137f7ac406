use Rattle.number_defs.proofs.Heights.{height_back, number_back, height_below, complement_back}
use Rattle.number_defs.proofs.heights_undo.Goals as goal

pub returns : goal.returns
returns c = record { back = height_back; again = number_back; below = height_below; complemented = complement_back }
