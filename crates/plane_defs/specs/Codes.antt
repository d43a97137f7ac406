-- The symbols of words, and the codes of symbols. (The use of variable length codes after CCSDS
-- 122.0-B-2, section 4.5.3.3; symbols, tables and identifiers are this project's own.)
use Rattle.std.specs.Prelude.{ℕ, ◌+◌, ◌-◌, ◌^◌, Bool, true, false, not, ◌&&◌, ◌||◌, ◌==◌, if◌then◌else◌, List, [], ◌∷◌, nat_le, nat_lt, count_ones}
use Rattle.std.specs.Prelude.{count_by, map}
use Rattle.std.specs.List.{list_all, list_any}
use lib.ListN.{get_or}
use Rattle.item_defs.specs.Bits.{bits_of}
use Rattle.item_defs.specs.Items.{Item, plain, identifier, code}
use Rattle.base_122.specs.declared.book.Code.{Code}
use Rattle.base_122.specs.declared.book.Book.{Book}
use Rattle.base_122.specs.Profile.{no_code}
use Rattle.plane_defs.specs.Spans.{span}

-- v precedes w: it has fewer ones, or the same number of ones and is greater
abbrev pub precedes : ℕ → ℕ → Bool
precedes w v = nat_lt (count_ones v) (count_ones w) || (count_ones v == count_ones w && nat_lt w v)

-- the symbol of a word: the number of words of its length that precede it
unfoldable pub symbol : ℕ → ℕ → ℕ
symbol length w = count_by (precedes w) (span 0 (2 ^ length))

abbrev pub is_prefix : List Bool → List Bool → Bool
is_prefix [] bits = true
is_prefix (x ∷ xs) [] = false
is_prefix (true ∷ xs) (b ∷ bits) = b && is_prefix xs bits
is_prefix (false ∷ xs) (b ∷ bits) = not b && is_prefix xs bits

abbrev pub code_bits : Code → List Bool
code_bits c = bits_of c.len c.bits

abbrev pub entry : List Code → ℕ → Code
entry table s = get_or table s no_code

-- each of the first `count` codes has 1 to 8 bits, and each string of 8 bits begins with exactly one of them:
-- so no code is a prefix of another, and no bits are refused
unfoldable pub is_table_sound : List Code → ℕ → Bool
is_table_sound table count =
    list_all (λ s. nat_le 1 (entry table s).len && nat_le (entry table s).len 8) (span 0 count) &&
    list_all (λ v. count_by (λ s. is_prefix (code_bits (entry table s)) (bits_of 8 v)) (span 0 count) == 1) (span 0 256)

abbrev pub table : Book → ℕ → List Code
table book i = get_or book.codes i []

-- the tables of words of two, three and four bits
abbrev pub is_book_sound : Book → Bool
is_book_sound book =
    is_table_sound (table book 0) 4 &&
    (is_table_sound (table book 1) 8 && is_table_sound (table book 2) 8 &&
    (is_table_sound (table book 3) 16 && is_table_sound (table book 4) 16 && is_table_sound (table book 5) 16))

-- the option in which words are not coded
abbrev pub uncoded : ℕ → ℕ
uncoded length = length - 1

-- the index of the table of a length and option in the book
abbrev pub table_place : ℕ → ℕ → ℕ
table_place length option = if nat_lt length 3 then 0 else if nat_lt length 4 then 1 + option else 3 + option

abbrev pub code_at : Book → ℕ → ℕ → ℕ → Code
code_at book length option s = entry (table book (table_place length option)) s

-- the codes of all symbols of a length
abbrev pub codes_of : Book → ℕ → ℕ → List (List Bool)
codes_of book length option = map (λ s. code_bits (code_at book length option s)) (span 0 (2 ^ length))

-- ---- items

-- the item of a word: the code of its symbol, or its bits as they are
abbrev pub word_item : Book → (length option value : ℕ) → Item
word_item book length option value =
    if option == uncoded length then plain length value else code (codes_of book length option) (symbol length value)

abbrev pub identifier_width : ℕ → ℕ
identifier_width length = if nat_lt length 3 then 1 else 2

-- the number that represents an option: that of the uncoded one is all ones
abbrev pub identifier_number : ℕ → ℕ → ℕ
identifier_number length option = if length == 3 && option == 2 then 3 else option

abbrev pub names_option : ℕ → ℕ → Bool
names_option length number = list_any (λ option. identifier_number length option == number) (span 0 length)

abbrev pub option_item : (length option : ℕ) → Item
option_item length option = identifier (identifier_width length) (names_option length) (identifier_number length option)
