-- Entries as packed numbers: sixteen times the number of bits, plus the number that they make.
use Rattle.std.specs.Prelude.{◌≤◌, ◌<◌, ℕ, ◌/◌, ◌%◌, ◌^◌, List, ◌∷◌, map}
use Rattle.item_defs.specs.Bits.{bits_of}
use Rattle.plane_defs.specs.declared.entries.Entry.{Entry}
use Rattle.plane_defs.specs.declared.entries.Entry.TheVariants.{Bit, Word}
use Rattle.plane_coder.specs.declared.plane_masks.Typed.{Typed}

-- the word that a number packs
abbrev pub word_of : ℕ → Entry
word_of n = Word (record { value = n % 16; count = n / 16 })

-- the raw bits that a number packs
abbrev pub raws_of : ℕ → List Entry
raws_of n = map Bit (bits_of (n / 16) (n % 16))

abbrev pub word_in : Typed → ℕ
word_in s = s.pair % 256

abbrev pub signs_in : Typed → ℕ
signs_in s = s.pair / 256

-- a word and the signs after it
abbrev pub entries_of : Typed → List Entry
entries_of s = word_of (word_in s) ∷ raws_of (signs_in s)

-- an empty word
abbrev pub no_word : Typed
no_word = record { pair = 0 }

-- up to four bits
pub record IsPacked (picked : ℕ) : Type 0 where
  pub length : picked / 16 ≤ 4
  pub value : picked % 16 < 2 ^ (picked / 16)

pub record ArePacked (s : Typed) : Type 0 where
  pub word : IsPacked (word_in s)
  pub signs : IsPacked (signs_in s)
