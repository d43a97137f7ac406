-- The arguments after the command, one by one. This project's own.
use Rattle.std.specs.Prelude.{◌≡◌, ◌⊎◌, ◌+◌, ◌==◌, ℕ, List, [], ◌∷◌, ◌++◌, codes, true, if◌then◌else◌, Some, None, Result, Ok, Err}
use Rattle.command_words.specs.declared.tables.Key.{Key}
use Rattle.command_words.specs.declared.entries.Entry.{Entry}
use Rattle.command_words.specs.declared.command.WordFault.{WordFault}
use Rattle.command_words.specs.declared.command.WordFault.TheVariants.{MissingCommand, BadWord, MissingKey, OutOfRange}
use Rattle.command_words.specs.Listed.{key_text}
use Rattle.command_words.specs.Tables.{Finds, key_place, row_of, contains_key}
use Rattle.command_words.specs.Values.{value_text, form_of, HasForm}

-- no key yet
abbrev pub nothing : Finds
nothing key = None

-- and a key with its value
abbrev pub with_entry : Finds → Entry → Finds
with_entry finds entry key = if key_place entry.key == key_place key then Some entry.value else finds key

-- an argument of this key and this text: the key, an equals sign and the text
abbrev pub IsKeyed : List ℕ → Key → List ℕ → Type 0
IsKeyed word key text = word ≡ key_text key ++ codes "=" ++ text

-- An argument gives one of the command's keys, which wasn't there before, its value.
pub record IsEntry (keys : List Key) (finds : Finds) (word : List ℕ) (entry : Entry) : Type 0 where
  pub keyed : IsKeyed word entry.key (value_text entry.value)
  pub known : contains_key keys entry.key ≡ true
  pub fresh : finds entry.key ≡ None
  pub form : HasForm (form_of (row_of entry.key).default) entry.value

-- the meaning of the argument at a place after those before it: an entry, or none
abbrev pub WordSays : List Key → Finds → ℕ → List ℕ → Result Entry WordFault → Type 0
WordSays keys finds place word (Ok entry) = IsEntry keys finds word entry
WordSays keys finds place word (Err (BadWord faulty)) = (faulty ≡ place) × ((entry : Entry) → IsEntry keys finds word entry → ⊥)
WordSays keys finds place word (Err MissingCommand) = ⊥
WordSays keys finds place word (Err (MissingKey field)) = ⊥
WordSays keys finds place word (Err (OutOfRange field)) = ⊥

-- the meaning of the arguments from a place on: the fault of the first that has one, or what was found at all keys
abbrev pub EntriesSay : List Key → Finds → ℕ → List (List ℕ) → Result Finds WordFault → Type 0
EntriesSay keys finds place [] said = said ≡ Ok finds
EntriesSay keys finds place (word ∷ words) said =
    ((fault : WordFault) × WordSays keys finds place word (Err fault) × (said ≡ Err fault))
    ⊎ ((entry : Entry) × IsEntry keys finds word entry × EntriesSay keys (with_entry finds entry) (place + 1) words said)
