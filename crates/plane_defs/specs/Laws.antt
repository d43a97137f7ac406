-- Numbers that are multiples of 2 ^ shift, and the law of the tables of codes.
use Rattle.std.specs.Prelude.{◌≡◌, ◌<◌, ◌≤◌, ℕ, ◌+◌, ◌*◌, ◌^◌, ℤ, true, List, [], ◌∷◌, ◌++◌, Bool}
use Rattle.item_defs.specs.Bits.{bits_of}
use Rattle.plane_defs.specs.declared.sets.Set.{Set}
use Rattle.item_defs.specs.Items.{coded}
use Rattle.item_defs.specs.Readings.{IsSound}
use Rattle.base_122.specs.declared.book.Code.{Code}
use Rattle.base_122.specs.declared.book.Book.{Book}
use Rattle.plane_defs.specs.Sets.{magnitude, shift}
use Rattle.plane_defs.specs.declared.sets.Set.TheVariants.{Family}
use Rattle.plane_defs.specs.Codes.{is_table_sound, is_book_sound, is_prefix, code_bits, codes_of, entry}

-- each magnitude is a multiple of 2 ^ shift
pub record IsMultiple (block : List ℤ) (weights : List ℕ) : Type 0 where
  pub part : ℕ → ℕ
  pub whole : (p : ℕ) → magnitude block p ≡ 2 ^ shift weights p * part p

abbrev pub three_families : List Set
three_families = Family 0 ∷ Family 1 ∷ Family 2 ∷ []

pub record TablesReadOnce : Type 0 where
  -- two codes that are prefixes of the same bits are the same
  pub once : (table : List Code) (count m n : ℕ) (xs ys : List Bool) → is_table_sound table count ≡ true →
      m < count → n < count → code_bits (entry table m) ++ xs ≡ code_bits (entry table n) ++ ys → m ≡ n
  -- any eight bits begin with some code
  pub begins : (table : List Code) (count v : ℕ) → is_table_sound table count ≡ true → v < 256 →
      (m : ℕ) × (m < count) × (is_prefix (code_bits (entry table m)) (bits_of 8 v) ≡ true)
  -- so in a sound book no code of a word is a prefix of another
  pub words : (book : Book) (length option : ℕ) → is_book_sound book ≡ true → 2 ≤ length → length ≤ 4 → option + 1 < length →
      IsSound (coded (codes_of book length option))
