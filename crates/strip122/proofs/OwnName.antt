-- The arguments without the program's own name.
use Rattle.std.proofs.Common.{◌≡◌, ◌-◌, ℕ, List, length, take, drop, sym, ◌∙◌, ap, subst, Option, None, Result, String, string_bytes}
use Rattle.std.specs.declared.alloc.Global.{Global}
use Rattle.std.proofs.lemmas.List.{take_rest, drop-map}
use Rattle.port_122.specs.Outside.{Outside}
use Rattle.command_words.specs.declared.answers.Answer.{Answer}
use Rattle.command_words.specs.declared.command.Command.{Command}
use Rattle.command_words.specs.declared.command.WordFault.{WordFault}
use Rattle.command_words.specs.Words.{texts, Says}
use Rattle.command_words.specs.Answers.{answer_to}
use Rattle.strip122.specs.Run.{Runs}
use Rattle.strip122.specs.Answers.{AnswersOrRuns, Does}

pub rest_texts : (words : List (String Global)) → texts (take (length words - 1) (drop 1 words)) ≡ drop 1 (texts words)
rest_texts words = ap texts (take_rest words 1) ∙ sym (drop-map string_bytes 1 words)

-- what the program does is what a run for these arguments does, if it has no answer itself
pub runs_rest : (words rest : List (List ℕ)) (old new : Outside) (run status : ℕ) → rest ≡ drop 1 words → None ≡ answer_to rest → status ≡ run →
    (said : Result Command WordFault) × Says rest said × Runs rest said old new run → Does (drop 1 words) old new status
runs_rest words rest old new run status is none status_is ran =
    subst (λ n. Does (drop 1 words) old new n) (sym status_is)
    (subst (λ ws. Does ws old new run) is (subst (λ (own : Option Answer). AnswersOrRuns own rest old new run) none ran))
