-- What a segment's text holds, or the name by which it is refused. The text is given by the octets after its head: the head's
-- own octets are any that are read as this head. (this project's own)
use Rattle.std.specs.Prelude.{◌≡◌, ◌≢◌, ◌<◌, ◌⊎◌, ℕ, ◌+◌, ◌-◌, ◌*◌, ◌/◌, ◌==◌, ℤ, Bool, if◌then◌else◌, List, length, take}
use Rattle.item_defs.specs.Bits.{bits_of_octets}
use Rattle.item_defs.specs.Items.{Item, Refusal, text}
use Rattle.item_defs.specs.Padding.{rounded}
use Rattle.base_122.specs.declared.book.Book.{Book}
use Rattle.segment_defs.specs.declared.head.SegmentHead.{SegmentHead}
use Rattle.segment_defs.specs.Head.{head_length}
use Rattle.segment_defs.specs.SegmentItems.{Options, segment_items}
use Rattle.segment_defs.specs.Prefixes.{Prefix, NothingFollows, RefusalFollows}
use Rattle.segment_defs.specs.Spellable.{IsSpellable, AreWordOptions}

-- ---- lengths in octets, the head included

abbrev pub length_of : SegmentHead → List ℕ → ℕ
length_of head rest = head_length head + length rest

-- the bits in which items are read: those of the octets before the limit
abbrev pub bits_read : SegmentHead → List ℕ → List Bool
bits_read head rest =
    bits_of_octets (if head.limit == 0 then rest else take (head.limit - head_length head) rest)

-- the length of a text of which all items are given
abbrev pub expected_length : SegmentHead → List Item → ℕ
expected_length head items =
    if head.fill then head.limit else rounded (8 * head.image.word) (8 * head_length head + length (text items)) / 8

-- ---- readings

-- the first m items of these values are in the text, before `more`
pub record Reading (head : SegmentHead) (rest : List ℕ) (blocks : List (List ℤ)) (depths : List ℕ) (options : Options) (m : ℕ) (more : List Bool) : Type 0 where
  pub spellable : IsSpellable head blocks depths
  pub known : AreWordOptions options
  pub prefix : Prefix (segment_items head blocks depths options) m (bits_read head rest) more

-- the text has the limit's number of octets, and is cut there
pub record IsCut (head : SegmentHead) (rest : List ℕ) : Type 0 where
  pub limited : head.limit ≢ 0
  pub full : length_of head rest ≡ head.limit

-- all items are given, and the text has its expected length; or the limit cuts the items
abbrev pub IsTaken : SegmentHead → List ℕ → List Item → ℕ → List Bool → Type 0
IsTaken head rest items m more =
    ((m ≡ length items) × (length_of head rest ≡ expected_length head items)) ⊎ (NothingFollows items m more × IsCut head rest)

-- the text holds some values, with the codes of this book: all their items, or those before the limit
pub record Holds (book : Book) (head : SegmentHead) (rest : List ℕ) : Type 0 where
  pub blocks : List (List ℤ)
  pub depths : List ℕ
  pub options : Options
  pub of_book : options.book ≡ book
  pub count : ℕ
  pub more : List Bool
  pub reading : Reading head rest blocks depths options count more
  pub is_taken : IsTaken head rest (segment_items head blocks depths options) count more

-- ---- refusals

pub data SegmentRefusal : Type 0 where
  at_item : Refusal → SegmentRefusal
  short_segment : SegmentRefusal
  overlong : SegmentRefusal

-- the text is shorter than this, or longer
abbrev pub IsOff : ℕ → ℕ → SegmentRefusal → Type 0
IsOff octets wanted (at_item name) = ⊥
IsOff octets wanted short_segment = octets < wanted
IsOff octets wanted overlong = wanted < octets

-- an item is not given: without a limit the text is short
abbrev pub IsOffLimit : SegmentHead → List ℕ → SegmentRefusal → Type 0
IsOffLimit head rest (at_item name) = ⊥
IsOffLimit head rest short_segment = (head.limit ≡ 0) ⊎ (length_of head rest < head.limit)
IsOffLimit head rest overlong = (head.limit ≢ 0) × (head.limit < length_of head rest)

abbrev pub IsRefusedItem : List Item → ℕ → List Bool → SegmentRefusal → Type 0
IsRefusedItem items m more (at_item name) = RefusalFollows items m more name
IsRefusedItem items m more short_segment = ⊥
IsRefusedItem items m more overlong = ⊥

pub record Refused (book : Book) (head : SegmentHead) (rest : List ℕ) (name : SegmentRefusal) : Type 0 where
  pub blocks : List (List ℤ)
  pub depths : List ℕ
  pub options : Options
  pub of_book : options.book ≡ book
  pub count : ℕ
  pub more : List Bool
  pub reading : Reading head rest blocks depths options count more
  pub cause : let items = segment_items head blocks depths options in
      IsRefusedItem items count more name
      ⊎ (((count ≡ length items) × IsOff (length_of head rest) (expected_length head items) name)
      ⊎ (NothingFollows items count more × IsOffLimit head rest name))
