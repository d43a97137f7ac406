-- Which books are sound. (Complete codes free of prefixes; their use after CCSDS 122.0-B-2, section 4.5.3.3. That a user may give a book is
-- this project's own.)
use Rattle.std.specs.Prelude.{◌≡◌, ◌<◌, ◌≤◌, ◌^◌, ◌==◌, ℕ, true, nat_lt, if◌then◌else◌, List}
use Rattle.item_defs.specs.Bits.{bits_of}
use Rattle.base_122.specs.declared.book.Code.{Code}
use Rattle.base_122.specs.declared.book.Book.{Book}
use Rattle.plane_defs.specs.Codes.{code_bits, entry, is_prefix}
use Rattle.plane_defs.specs.Codes.{table as table_in}

-- the number of symbols of each of the six tables
abbrev pub symbols_of : (i : ℕ) → ℕ
symbols_of i = if i == 0 then 4 else if nat_lt i 3 then 8 else 16

-- a code is a string of 1 to 8 bits
pub record IsCode (c : Code) : Type 0 where
  pub some : 1 ≤ c.len
  pub few : c.len ≤ 8
  pub fits : c.bits < 2 ^ c.len

-- each of the first `count` elements is a code
pub record AreCodes (codes : List Code) (count : ℕ) : Type 0 where
  pub each : (s : ℕ) → s < count → IsCode (entry codes s)

-- None of the first `count` codes is a prefix of another, and each string of 8 bits begins with one of them.
pub record IsTableSound (table : List Code) (count : ℕ) : Type 0 where
  pub codes : AreCodes table count
  pub apart : (s r : ℕ) → s < count → r < count → is_prefix (code_bits (entry table s)) (code_bits (entry table r)) ≡ true → s ≡ r
  pub whole : (v : ℕ) → v < 256 → (s : ℕ) × (s < count) × (is_prefix (code_bits (entry table s)) (bits_of 8 v) ≡ true)

pub record IsSound (book : Book) : Type 0 where
  pub tables : (i : ℕ) → i < 6 → IsTableSound (table_in book i) (symbols_of i)
