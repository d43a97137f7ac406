use Rattle.std.proofs.Common.{arith, sym}
use Rattle.command_words.proofs.OwnAnswers.{help_on_more}
use Rattle.command_words.proofs.answers.help_on.Goals as goal

pub returns-in_default-clause-answer : goal.returns-in_default-clause-answer
returns-in_default-clause-answer c = sym (help_on_more c.args.words.now (omega arith))
