-- Entries of a gaggle as bits, before they are put.
use Rattle.std.specs.Prelude.{◌≡◌, ◌≤◌, ℕ, ◌+◌, Bool, List, [], ◌∷◌, ◌++◌, if◌then◌else◌, nat_lt}
use Rattle.item_defs.specs.Bits.{bits_of}
use Rattle.item_defs.specs.Items.{Item, text}
use Rattle.base_122.specs.declared.book.Book.{Book}
use Rattle.plane_defs.specs.declared.entries.Entry.{Entry}
use Rattle.plane_defs.specs.declared.entries.Bits.{Bits}
use Rattle.plane_defs.specs.declared.entries.Entry.TheVariants.{Word}
use Rattle.plane_defs.specs.Spelled.{spelled_after, opening}
use Rattle.plane_coder.specs.declared.pending.PendingBits.{PendingBits}
use Rattle.block_masks.specs.Gaggles.{Agrees}
use Rattle.plane_coder.specs.Coding.{unopened}

-- the bits so far
abbrev pub said : PendingBits → List Bool
said s = bits_of s.count s.value

-- how many bits there are, with the identifiers that may follow
abbrev pub load : PendingBits → ℕ
load s = s.count + unopened s.gaggle.sent

-- these entries were added, in at most this number of bits, whatever entries went before, if the gaggle's flags are right about them
pub record Appends (book : Book) (old new : PendingBits) (entries : List Entry) (most : ℕ) : Type 0 where
  pub bits : (before : List Entry) → Agrees old.gaggle.sent before → said new ≡ said old ++ text (spelled_after book old.gaggle.options before entries)
  pub agrees : (before : List Entry) → Agrees old.gaggle.sent before → Agrees new.gaggle.sent (before ++ entries)
  pub options : new.gaggle.options ≡ old.gaggle.options
  pub load : load new ≤ load old + most

-- the identifier before a word of this length, if one is due
abbrev pub identified : List ℕ → List Entry → ℕ → List Item
identified options before n = if nat_lt n 2 then [] else opening options before n

-- the identifier was added, so that a word of this length can follow
pub record Opens (n : ℕ) (old new : PendingBits) : Type 0 where
  pub bits : (before : List Entry) → Agrees old.gaggle.sent before → said new ≡ said old ++ text (identified old.gaggle.options before n)
  pub agrees : (before : List Entry) (word : Bits) → word.count ≡ n → Agrees old.gaggle.sent before → Agrees new.gaggle.sent (before ++ Word word ∷ [])
  pub options : new.gaggle.options ≡ old.gaggle.options
