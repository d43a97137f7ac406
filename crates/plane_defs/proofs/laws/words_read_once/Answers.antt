use Rattle.plane_defs.proofs.ReadOnce.{once, begins, words}
use Rattle.plane_defs.proofs.laws.words_read_once.Goals as goal

pub returns : goal.returns
returns c = record { once = once; begins = begins; words = words }
