-- The bits that words take under each option of their length, in sums with fields of 12 bits.
use Rattle.std.specs.Prelude.{◌≡◌, ◌≤◌, ◌<◌, ℕ, ◌+◌, ◌*◌, List, [], ◌∷◌}
use Rattle.base_122.specs.declared.book.Book.{Book}
use Rattle.plane_defs.specs.declared.entries.Entry.{Entry}
use Rattle.plane_defs.specs.Choice.{cost, cheapest, symbol_counts}
use lib.ListN.{get_or}
use Rattle.plane_coder.specs.Picked.{IsPacked, word_of}
use Rattle.plane_coder.specs.declared.costs.Costs.{Costs}

-- the bits of the words of a length under an option
abbrev pub bits_under : Book → (n option : ℕ) → List Entry → ℕ
bits_under book n option entries = cost book n (symbol_counts n entries) option

-- those of words of two bits, and then those of words of three bits
abbrev pub short_bits : Book → List Entry → ℕ
short_bits book entries =
    bits_under book 2 0 entries + 4096 * bits_under book 2 1 entries + 16777216 * bits_under book 3 0 entries +
    68719476736 * bits_under book 3 1 entries + 281474976710656 * bits_under book 3 2 entries

-- those of words of four bits
abbrev pub long_bits : Book → List Entry → ℕ
long_bits book entries =
    bits_under book 4 0 entries + 4096 * bits_under book 4 1 entries + 16777216 * bits_under book 4 2 entries + 68719476736 * bits_under book 4 3 entries

-- the tables have the bits of each word, by its packed number
pub record AreWordCosts (book : Book) (shorts longs : List ℕ) : Type 0 where
  pub short : (word : ℕ) → IsPacked word → get_or shorts word 0 ≡ short_bits book (word_of word ∷ [])
  pub long : (word : ℕ) → IsPacked word → get_or longs word 0 ≡ long_bits book (word_of word ∷ [])

-- no option takes more than this number of bits
pub record TakeAtMost (book : Book) (entries : List Entry) (most : ℕ) : Type 0 where
  pub each : (n option : ℕ) → 2 ≤ n → n ≤ 4 → option < n → bits_under book n option entries ≤ most

-- the bits of these entries were added, which have at most this number of words
pub record Adds (book : Book) (old new : Costs) (entries : List Entry) (words : ℕ) : Type 0 where
  pub short : new.short ≡ old.short + short_bits book entries
  pub long : new.long ≡ old.long + long_bits book entries
  pub few : TakeAtMost book entries (8 * words)

-- neither sum is above `most`
pub record IsRoomy (c : Costs) (most : ℕ) : Type 0 where
  pub short : c.short ≤ most
  pub long : c.long ≤ most

-- the sums are those of these entries
pub record AreCosts (book : Book) (c : Costs) (entries : List Entry) : Type 0 where
  pub short : c.short ≡ short_bits book entries
  pub long : c.long ≡ long_bits book entries
  pub few : TakeAtMost book entries 4095

-- the cheapest options for these entries
abbrev pub cheapest_for : Book → List Entry → List ℕ
cheapest_for book entries =
    cheapest book 2 (symbol_counts 2 entries) ∷ cheapest book 3 (symbol_counts 3 entries) ∷ cheapest book 4 (symbol_counts 4 entries) ∷ []
