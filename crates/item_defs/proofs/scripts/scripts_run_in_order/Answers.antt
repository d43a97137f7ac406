use Rattle.item_defs.proofs.ScriptLaws.{run_then}
use Rattle.item_defs.proofs.scripts.scripts_run_in_order.Goals as goal

pub returns : goal.returns
returns c start = λ s next bits. run_then next s bits
