-- The answers of the program itself. This project's own.
use Rattle.std.specs.Prelude.{◌<◌, ◌==◌, ◌&&◌, ◌||◌, ℕ, Bool, if◌then◌else◌, List, [], ◌∷◌, length, map, codes, slice_index_or, Option, Some, None}
use Rattle.std.specs.Str.{bytes_eq}
use Rattle.command_words.specs.declared.tables.Key.{Key}
use Rattle.command_words.specs.declared.tables.TheConstants.{COMMANDS}
use Rattle.command_words.specs.declared.answers.Answer.{Answer}
use Rattle.command_words.specs.declared.answers.Answer.TheVariants.{Page, Command as on_command, Key as on_key, NoHelp, Version}
use Rattle.command_words.specs.declared.answers.TheConstants.{NO_HELP}
use Rattle.command_words.specs.Listed.{commands}
use Rattle.command_words.specs.Tables.{command_place, key_named}
use Rattle.command_words.specs.Help.{page, command_help, key_help}

abbrev pub is_help : List ℕ → Bool
is_help word = (bytes_eq word (codes "help") || bytes_eq word (codes "--help")) || bytes_eq word (codes "-h")

abbrev pub is_version : List ℕ → Bool
is_version word = (bytes_eq word (codes "version") || bytes_eq word (codes "--version")) || bytes_eq word (codes "-V")

-- the help on a command or a key of this name
abbrev pub named_help : Option ℕ → Option Key → Answer
named_help (Some place) key = on_command place
named_help None (Some key) = on_key key
named_help None None = NoHelp

abbrev pub help_on_name : List ℕ → Answer
help_on_name name = named_help (command_place name) (key_named name)

-- the answer to the arguments after `help`
abbrev pub help_on : List (List ℕ) → Answer
help_on [] = Page
help_on (name ∷ []) = help_on_name name
help_on (name ∷ other ∷ rest) = NoHelp

-- the answer to the arguments, if the program has one itself: to `help` before at most one name, and to `version` alone
abbrev pub answer_to : List (List ℕ) → Option Answer
answer_to [] = None
answer_to (first ∷ rest) = if is_help first then Some (help_on rest) else (if is_version first && (length rest == 0) then Some Version else None)

-- a command that an answer names is in the table
abbrev pub IsKnown : Answer → Type 0
IsKnown (on_command place) = place < length commands
IsKnown answer = Unit {0}

-- the text of an answer
abbrev pub answer_text : Answer → List ℕ
answer_text Page = page
answer_text (on_command place) = slice_index_or (map (λ row. command_help row.0.now row.1 row.2.now row.3.now row.4.now) COMMANDS) place []
answer_text (on_key key) = key_help key
answer_text NoHelp = NO_HELP.now
answer_text Version = codes "strip122 0.2.0, after CCSDS 122.0-B-2; its packets are its own\n"
