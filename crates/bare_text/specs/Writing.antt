-- What a writer carries: the parts whose octets aren't those in force, and the text of a segment with such a head. (This project's own;
-- the text is that of CCSDS 122.0-B-2, section 4, after its head.)
use Rattle.std.specs.Prelude.{ℕ, ℤ, Bool, not, if◌then◌else◌, List, [], ◌++◌, Option, None, Some}
use Rattle.std.specs.List.{flat_map}
use Rattle.std.specs.Str.{bytes_eq}
use Rattle.item_defs.specs.Bits.{octets_of}
use Rattle.item_defs.specs.Items.{text}
use Rattle.base_122.specs.declared.book.Book.{Book}
use Rattle.segment_defs.specs.declared.head.SegmentHead.{SegmentHead}
use Rattle.segment_defs.specs.Depths.{block_depths}
use Rattle.segment_defs.specs.Head.{Field, field_bits, part_2, part_3, part_4}
use Rattle.segment_defs.specs.SegmentItems.{segment_items}
use Rattle.segment_defs.specs.Coded.{chosen_options}
use Rattle.segment_defs.specs.Text.{text_octets}
use Rattle.segment_head.specs.declared.carried.Carried.{Carried}
use Rattle.segment_head.specs.Parts.{all_carried, part_1}

-- the octets of a part
abbrev pub part_octets : List Field → List ℕ
part_octets fields = octets_of (flat_map field_bits fields)

-- the parts that a head carries after this one: all of them in the first head
abbrev pub carried_after : Option SegmentHead → SegmentHead → Carried
carried_after None head = all_carried
carried_after (Some before) head = record {
  part_2 = not (bytes_eq (part_octets (part_2 before)) (part_octets (part_2 head)));
  part_3 = not (bytes_eq (part_octets (part_3 before)) (part_octets (part_3 head)));
  part_4 = not (bytes_eq (part_octets (part_4 before.image)) (part_octets (part_4 head.image)));
}

-- the fields of a part that is carried, and none of one that isn't
abbrev pub fields_where : Bool → List Field → List Field
fields_where is_carried fields = if is_carried then fields else []

-- the bits of a head with these parts
abbrev pub bare_head_bits : Carried → SegmentHead → List Bool
bare_head_bits carried head =
    flat_map field_bits (part_1 carried head)
    ++ (flat_map field_bits (fields_where carried.part_2 (part_2 head))
    ++ (flat_map field_bits (fields_where carried.part_3 (part_3 head))
    ++ flat_map field_bits (fields_where carried.part_4 (part_4 head.image))))

-- the bits of the text before they are padded: the words have the codes of this book
abbrev pub bare_bits : Book → Option SegmentHead → SegmentHead → List (List ℤ) → List Bool
bare_bits book before head blocks =
    bare_head_bits (carried_after before head) head
    ++ text (segment_items head blocks (block_depths blocks) (chosen_options book head blocks))

-- the octets of the text: the limit counts this head
unfoldable pub bare_text : Book → Option SegmentHead → SegmentHead → List (List ℤ) → List ℕ
bare_text book before head blocks = text_octets head.image.word head.limit head.fill (bare_bits book before head blocks)
