-- The meaning of the arguments of the command line. This project's own.
use Rattle.std.specs.Prelude.{◌≡◌, ◌<◌, ℕ, List, [], ◌∷◌, map, Option, Some, None, Result, Ok, Err, String, string_bytes}
use Rattle.std.specs.declared.alloc.Global.{Global}
use Rattle.command_words.specs.declared.tables.Task.{Task}
use Rattle.command_words.specs.declared.tables.Key.{Key}
use Rattle.command_words.specs.declared.command.Command.{Command}
use Rattle.command_words.specs.declared.command.WordFault.{WordFault}
use Rattle.command_words.specs.declared.command.WordFault.TheVariants.{MissingCommand, BadWord, MissingKey, OutOfRange}
use Rattle.command_words.specs.Tables.{command_named, Finds}
use Rattle.command_words.specs.Entries.{nothing, EntriesSay}
use Rattle.command_words.specs.Commands.{made}

-- the octets of each argument
abbrev pub texts : List (String Global) → List (List ℕ)
texts words = map string_bytes words

-- the meaning of the first argument: what its command does, and the command's keys
abbrev pub named_or_fault : Option (Task × List Key) → Result (Task × List Key) WordFault
named_or_fault (Some named) = Ok named
named_or_fault None = Err (BadWord 0)

abbrev pub name_said : List ℕ → Result (Task × List Key) WordFault
name_said word = named_or_fault (command_named word)

-- the result for the arguments after the command
abbrev pub made_of : (Task × List Key) → Result Finds WordFault → Result Command WordFault
made_of named (Ok finds) = made named.0 named.1 finds
made_of named (Err fault) = Err fault

-- the meaning of the arguments after the first
abbrev pub RestSays : Result (Task × List Key) WordFault → List (List ℕ) → Result Command WordFault → Type 0
RestSays (Err fault) rest result = result ≡ Err fault
RestSays (Ok named) rest result = (said : Result Finds WordFault) × EntriesSay named.1 nothing 1 rest said × (result ≡ made_of named said)

-- The meaning of the arguments: a command, or the first thing that is wrong with them, tested from left to right; then a required key that
-- is missing, and the first field out of range.
abbrev pub Says : List (List ℕ) → Result Command WordFault → Type 0
Says [] result = result ≡ Err MissingCommand
Says (first ∷ rest) result = RestSays (name_said first) rest result

-- an argument that a fault names is one of `count` arguments
abbrev pub IsPlaced : ℕ → WordFault → Type 0
IsPlaced count (BadWord place) = place < count
IsPlaced count MissingCommand = Unit {0}
IsPlaced count (MissingKey field) = Unit {0}
IsPlaced count (OutOfRange field) = Unit {0}
