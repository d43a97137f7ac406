-- The word of up to four due positions that is first in a window, by tables. (This project's own.)
use Rattle.std.specs.Prelude.{◌≡◌, ◌≤◌, ◌<◌, ℕ, ◌+◌, ◌-◌, ◌*◌, ◌/◌, ◌%◌, ◌^◌, ◌==◌, false, if◌then◌else◌, nat_lt, List, [], max, count_ones, slice_index_or}
use Rattle.std.specs.Prelude.{map, filter, length, Option, Some, None}
use lib.ListN.{get_or}
use Rattle.item_defs.specs.Bits.{bit, value_of}
use Rattle.item_defs.specs.Items.{item_bits}
use Rattle.plane_defs.specs.Spans.{span}
use Rattle.plane_defs.specs.Codes.{word_item}
use Rattle.base_122.specs.declared.book.Book.{Book}
use Rattle.block_masks.specs.declared.gaggle.Gaggle.{Gaggle}
use Rattle.block_masks.specs.Picks.{AreSpread}
use Rattle.bit_pipe.specs.Windows.{first_of}
use Rattle.plane_reader.specs.declared.places.FirstPlaces.{FirstPlaces}
use Rattle.plane_reader.specs.declared.places.Rows.{Rows}

-- the word of up to four due positions of which these have a 1: the first position is for its highest bit
abbrev pub word_at : (due places : ℕ) → ℕ
word_at due places = value_of (map (λ p. bit places (p - 0)) (filter (bit due) (span 0 4)))

-- the word is that of up to four due positions, its code is first in a window, and these are the positions whose bit is 1
pub record IsFirst (book : Book) (due option window : ℕ) (first : FirstPlaces) : Type 0 where
  pub fits : word_at due first.places < 2 ^ count_ones due
  pub few : first.len ≤ 8
  pub none : count_ones due ≡ 0 → first.len ≡ 0
  pub code : 1 ≤ count_ones due → item_bits (word_item book (count_ones due) option (word_at due first.places)) ≡ first_of first.len window
  pub places : AreSpread due (word_at due first.places) first.places
  pub signed : first.signed_len ≡ first.len + count_ones first.places

abbrev pub nothing_first : FirstPlaces
nothing_first = record { places = 0; len = 0; signed_len = 0 }

-- the entry of each octet is the word that is first in a window that begins with it
abbrev pub AreEntries : Book → (due option : ℕ) → List FirstPlaces → Type 0
AreEntries book due option entries = (window : ℕ) → window < 2 ^ 64 → IsFirst book due option window (slice_index_or entries (window / 2 ^ 56) nothing_first)

-- a table for each mask of what is due and each option of words of that length
pub record AreTables (book : Book) (tables : List (List FirstPlaces)) : Type 0 where
  pub all : length tables ≡ 64
  pub at : (due option : ℕ) → due < 16 → option < max 1 (count_ones due) → AreEntries book due option (slice_index_or tables (4 * due + option) [])

-- the table of a mask whose words have this option, if it is known
abbrev pub row_by : Gaggle → (due count : ℕ) → ℕ
row_by gaggle due count =
    if nat_lt count 2 then 4 * due else
    if get_or gaggle.sent (count - 2) false then 4 * due + get_or gaggle.options (count - 2) 0 else 255

abbrev pub row_of : Gaggle → ℕ → ℕ
row_of gaggle due = row_by gaggle due (count_ones due)

-- the same, if there are tables
abbrev pub row_in : {X : Type 0} → Option X → Gaggle → ℕ → ℕ
row_in (Some tables) gaggle due = row_of gaggle due
row_in None gaggle due = 255

-- the table of a mask by the four bits of its option: none if they are all 1
abbrev pub table_by : (due option : ℕ) → ℕ
table_by due option = if option == 15 then 255 else 4 * due + option

abbrev pub table_in : Rows → ℕ → ℕ
table_in rows due = table_by due (rows.options / 2 ^ (4 * due) % 16)

pub record AreRows {X : Type 0} (tables : Option X) (gaggle : Gaggle) (rows : Rows) : Type 0 where
  pub at : (due : ℕ) → due < 16 → table_in rows due ≡ row_in tables gaggle due
