use Rattle.item_defs.proofs.Completing.{completes, are_possible}
use Rattle.item_defs.proofs.scripts.scripts_complete.Goals as goal

pub returns : goal.returns
returns c start = λ s p items form are asks. completes _ s p items form (are_possible items are) asks
