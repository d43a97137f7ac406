use Rattle.command_words.specs.Words.{texts}
use Rattle.strip122.proofs.OwnName.{rest_texts, runs_rest}
use Rattle.strip122.proofs.start.Goals as goal

pub returns-in-None : goal.returns-in-None
returns-in-None g c =
    runs_rest (texts c.args.arguments.now) _ _ _ _ _ (rest_texts c.args.arguments.now) c.in-None.ensures.answer c.from-in-None.ensures
    c.run-in-None.ensures.runs
