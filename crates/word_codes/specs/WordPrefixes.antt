-- The word whose code is first in an octet. (This project's own.)
use Rattle.std.specs.Prelude.{◌≡◌, ◌≤◌, ◌<◌, ℕ, ◌^◌, List}
use Rattle.bit_pipe.specs.declared.prefix.Prefix.{Prefix}
use Rattle.bit_pipe.specs.Prefixes.{prefix_at, first_bits}
use Rattle.base_122.specs.declared.book.Code.{Code}
use Rattle.base_122.specs.declared.book.Book.{Book}
use Rattle.item_defs.specs.Items.{item_bits}
use Rattle.plane_defs.specs.Codes.{symbol, code_at, code_bits, word_item}

-- a code is first in an octet
abbrev pub Begins : Code → ℕ → Type 0
Begins code octet = code_bits code ≡ first_bits code.len octet

-- the entry of an octet has a symbol's word, and the length of its code
pub record PrefixOf (book : Book) (n option s : ℕ) (prefix : Prefix) : Type 0 where
  pub word : symbol n prefix.number ≡ s
  pub known : prefix.number < 2 ^ n
  pub len : prefix.len ≡ (code_at book n option s).len

-- each octet has the entry of the symbol whose code is first in it
pub record ArePrefixes (book : Book) (n option : ℕ) (prefixes : List Prefix) : Type 0 where
  pub at : (octet s : ℕ) → octet < 256 → s < 2 ^ n → Begins (code_at book n option s) octet → PrefixOf book n option s (prefix_at prefixes octet)

-- what is first in an octet, of words of at most four bits
pub record IsFirst (book : Book) (n option octet : ℕ) (prefix : Prefix) : Type 0 where
  pub known : prefix.number < 2 ^ n
  pub few : prefix.len ≤ 8
  pub none : n ≡ 0 → prefix.len ≡ 0
  pub first : 1 ≤ n → item_bits (word_item book n option prefix.number) ≡ first_bits prefix.len octet
