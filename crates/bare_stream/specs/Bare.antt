-- The bare stream of an image: the texts of its segments, one after another. (This project's own. The segments and their heads are those
-- of the packets of the same setting; the texts are those of bare_text.)
use Rattle.std.specs.Prelude.{ℕ, zero, suc, ℤ, List, Option, None, Some}
use Rattle.std.specs.List.{range_with_len, flat_map}
use Rattle.base_122.specs.declared.setting.Setting.{Setting}
use Rattle.segment_defs.specs.declared.head.SegmentHead.{SegmentHead}
use Rattle.stream_defs.specs.Output.{head_for, image_blocks, segment_of, segments_of}
use Rattle.bare_text.specs.Writing.{bare_text}

-- the head before that of the segment of this index: its parts are in force there
abbrev pub head_before : Setting → List (List ℤ) → (index : ℕ) → Option SegmentHead
head_before s all zero = None
head_before s all (suc index) = Some (head_for s all index)

-- the text of the segment of this index
abbrev pub segment_octets : Setting → List (List ℤ) → (index : ℕ) → List ℕ
segment_octets s all index = bare_text s.book (head_before s all index) (head_for s all index) (segment_of s all index)

-- the texts of the first n segments
unfoldable pub first_texts : Setting → List (List ℤ) → (n : ℕ) → List ℕ
first_texts s all n = flat_map (segment_octets s all) (range_with_len 0 n)

-- the bare stream of an image
abbrev pub bare : Setting → (ℕ → ℕ → ℤ) → List ℕ
bare s x = first_texts s (image_blocks s x) (segments_of s)
