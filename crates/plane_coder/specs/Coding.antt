-- The codes of words in the tables.
use Rattle.std.specs.Prelude.{◌≡◌, ◌<◌, ◌≤◌, ℕ, ◌+◌, ◌/◌, ◌%◌, ◌^◌, ◌==◌, Bool, false, List, [], if◌then◌else◌, nat_lt, slice_index_or}
use lib.ListN.{get_or}
use Rattle.item_defs.specs.Bits.{bits_of}
use Rattle.item_defs.specs.Items.{item_bits}
use Rattle.base_122.specs.declared.book.Code.{Code}
use Rattle.base_122.specs.declared.book.Book.{Book}
use Rattle.base_122.specs.Profile.{no_code}
use Rattle.plane_defs.specs.Codes.{code_bits, word_item}
use Rattle.plane_defs.specs.Spelled.{option_of}
use Rattle.plane_coder.specs.Picked.{IsPacked}

-- a word of up to four bits, and an option of its length
pub record IsWordOf (length option value : ℕ) : Type 0 where
  pub long : length ≤ 4
  pub known : 2 ≤ length → option < length
  pub short : length < 2 → option ≡ 0
  pub fits : value < 2 ^ length

-- the bits that represent a word under an option: a word of one bit is raw, and an empty one has no bits
abbrev pub word_bits : Book → (length option value : ℕ) → List Bool
word_bits book length option value = if nat_lt length 2 then bits_of length value else item_bits (word_item book length option value)

pub record IsCodeOf (book : Book) (length option value : ℕ) (code : Code) : Type 0 where
  pub bits : code_bits code ≡ word_bits book length option value
  pub few : code.len ≤ 8
  pub fits : code.bits < 2 ^ code.len

-- the index of the codes of a length and option
abbrev pub row_of : ℕ → ℕ → ℕ
row_of length option = if nat_lt length 3 then length + option else if length == 3 then 4 + option else 7 + option

abbrev pub code_in : List (List Code) → ℕ → ℕ → Code
code_in rows row value = slice_index_or (slice_index_or rows row []) value no_code

-- the rows have the codes of a book
abbrev pub AreCodes : Book → List (List Code) → Type 0
AreCodes book rows = (n option v : ℕ) → IsWordOf n option v → IsCodeOf book n option v (code_in rows (row_of n option) v)

-- the option of a word of this length, if there is a choice
abbrev pub option_for : List ℕ → ℕ → ℕ
option_for options length = if nat_lt length 2 then 0 else option_of options length

-- the code of each word as it is picked, under the option of its length
abbrev pub AreCodesUnder : Book → List ℕ → List Code → Type 0
AreCodesUnder book options codes = (word : ℕ) → IsPacked word → IsCodeOf book (word / 16) (option_for options (word / 16)) (word % 16)
    (slice_index_or codes word no_code)

-- the number of bits of the identifiers that were not put yet
abbrev pub unopened : List Bool → ℕ
unopened sent =
    (if get_or sent 0 false then 0 else 1) + (if get_or sent 1 false then 0 else 2) + (if get_or sent 2 false then 0 else 2)

-- the lengths of words whose identifier was not put yet, as a mask
abbrev pub closed_in : List Bool → ℕ
closed_in sent =
    (if get_or sent 0 false then 0 else 4) + (if get_or sent 1 false then 0 else 8) + (if get_or sent 2 false then 0 else 16)
