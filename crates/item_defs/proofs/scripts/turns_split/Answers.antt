use Rattle.item_defs.proofs.ScriptLaws.{turns_split}
use Rattle.item_defs.proofs.scripts.turns_split.Goals as goal

pub returns : goal.returns
returns c start = turns_split _
