-- The length of a coded text.
use Rattle.std.specs.Prelude.{◌≡◌, ◌<◌, ℕ, ◌^◌, ℤ, List, ◌++◌, length}
use Rattle.item_defs.specs.Items.{text}
use Rattle.segment_defs.specs.declared.head.SegmentHead.{SegmentHead}
use Rattle.segment_defs.specs.Head.{IsHead, head_bits}
use Rattle.segment_defs.specs.SegmentItems.{Options, segment_items}
use Rattle.segment_defs.specs.Spellable.{IsSpellable, AreWordOptions, AreNumberOptions}

-- head and items of values that can be coded, with any options, take fewer than 2 ^ 31 octets, so the bound of 2 ^
-- 32 octets that represents no limit never cuts them
abbrev pub TextsAreShort : Type 0
TextsAreShort = (head : SegmentHead) (blocks : List (List ℤ)) (depths : List ℕ) (options : Options) → IsHead head → length head.image.weights.shifts ≡ 10 →
    IsSpellable head blocks depths → AreWordOptions options → AreNumberOptions head options →
    length (head_bits head ++ text (segment_items head blocks depths options)) < 2 ^ 34
