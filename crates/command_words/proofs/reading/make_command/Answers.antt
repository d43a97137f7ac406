use Rattle.std.proofs.Common.{arith}
use Rattle.std.proofs.lemmas.Grind.{common_steps}
use Rattle.command_words.proofs.Made.{command_in_range}
use Rattle.command_words.proofs.reading.make_command.Goals as goal

pub command_of-requires : goal.command_of-requires
command_of-requires c = grind (arith, common_steps, command_in_range)
