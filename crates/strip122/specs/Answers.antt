-- What the program does for its arguments: it answers some itself, and runs a command for all others. This project's own.
use Rattle.std.specs.Prelude.{◌≡◌, ◌⊎◌, ◌≤◌, ℕ, List, [], length, take, Option, Some, None, Result}
use Rattle.std.specs.declared.io.ErrorKind.{ErrorKind}
use Rattle.std.specs.declared.io.ErrorKind.TheVariants.{OutOfMemory}
use Rattle.port_122.specs.Outside.{Outside, Exchange, NoRead, Rose}
use Rattle.command_words.specs.declared.answers.Answer.{Answer}
use Rattle.command_words.specs.declared.answers.Answer.TheVariants.{NoHelp}
use Rattle.command_words.specs.declared.command.Command.{Command}
use Rattle.command_words.specs.declared.command.WordFault.{WordFault}
use Rattle.command_words.specs.Words.{Says}
use Rattle.command_words.specs.Answers.{answer_to, answer_text}
use Rattle.strip122.specs.Notes.{Notes}
use Rattle.strip122.specs.Run.{Runs}

-- This text is given, once, and nothing else is read, given or noted; only a prefix of it if a write fails.
abbrev pub Prints : List ℕ → Outside → Outside → ℕ → Type 0
Prints text old new status =
    ((status ≡ 0) × Exchange old new [] text [] NoRead)
    ⊎ ((status ≡ 5) × Rose old.write_faults new.write_faults × ((n : ℕ) × (n ≤ length text) × Exchange old new [] (take n text) [] NoRead))

-- the text of an answer is printed, or noted if there is no help
abbrev pub GivesAnswer : Answer → Outside → Outside → ℕ → Type 0
GivesAnswer NoHelp old new status = (status ≡ 2) × Notes old new (answer_text NoHelp)
GivesAnswer answer old new status = Prints (answer_text answer) old new status

-- an answer is given, or there is too little memory for its text and nothing happens
abbrev pub AnswersItself : Answer → Outside → Outside → ℕ → Type 0
AnswersItself answer old new status = GivesAnswer answer old new status ⊎ ((status ≡ 6) × (new ≡ old))

abbrev pub AnswersOrRuns : Option Answer → List (List ℕ) → Outside → Outside → ℕ → Type 0
AnswersOrRuns (Some answer) words old new status = AnswersItself answer old new status
AnswersOrRuns None words old new status = (said : Result Command WordFault) × Says words said × Runs words said old new status

-- what the program does for its arguments, without its own name
abbrev pub Does : List (List ℕ) → Outside → Outside → ℕ → Type 0
Does words old new status = AnswersOrRuns (answer_to words) words old new status

-- the status if the arguments can't be read, because there is too little memory or they aren't UTF-8
abbrev pub words_fault : ErrorKind → ℕ
words_fault OutOfMemory = 6
words_fault kind = 2
