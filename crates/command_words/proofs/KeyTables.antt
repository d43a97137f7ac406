-- The program's table of keys is the list of the specification.
use Rattle.std.proofs.Common.{◌≡◌, [], map, get_or, refl}
use Rattle.command_words.specs.declared.tables.Key.{Key}
use Rattle.command_words.specs.declared.tables.Key.TheVariants.{Width}
use Rattle.command_words.specs.declared.tables.TheConstants.{KEYS}
use Rattle.command_words.specs.Listed.{key_text}
use Rattle.command_words.specs.Tables.{key_place, row_of, no_row}

pub texts_are_listed : (key : Key) → get_or (map (λ entry. entry.0.now) KEYS) (key_place key) [] ≡ key_text key
texts_are_listed Width = refl
texts_are_listed key = refl

pub rows_are_listed : (key : Key) → get_or (map (λ entry. entry.1) KEYS) (key_place key) no_row ≡ row_of key
rows_are_listed Width = refl
rows_are_listed key = refl
