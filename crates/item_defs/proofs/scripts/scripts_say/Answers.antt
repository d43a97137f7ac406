use Rattle.item_defs.proofs.ScriptLaws.{scripts_say}
use Rattle.item_defs.proofs.scripts.scripts_say.Goals as goal

pub returns : goal.returns
returns c start = scripts_say _ _
