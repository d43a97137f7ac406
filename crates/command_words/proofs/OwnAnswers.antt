-- The answers of the program itself.
use Rattle.std.proofs.Common.{◌≡◌, ◌≤◌, List, [], ◌∷◌, length, refl, arith, String}
use Rattle.std.specs.declared.alloc.Global.{Global}
use Rattle.command_words.specs.declared.answers.Answer.TheVariants.{NoHelp}
use Rattle.command_words.specs.Words.{texts}
use Rattle.command_words.specs.Answers.{help_on}

-- there is no help on two or more arguments
pub help_on_more : (words : List (String Global)) → 2 ≤ length words → help_on (texts words) ≡ NoHelp
help_on_more [] more = absurd (omega arith)
help_on_more (w ∷ []) more = absurd (omega arith)
help_on_more (w ∷ v ∷ ws) more = refl
