-- The fields of a head in the form in which code writes them.
use Rattle.std.specs.Prelude.{◌%◌, true, false, List, [], ◌∷◌, ◌++◌}
use Rattle.segment_defs.specs.Head.{field, flag, reserved, word_pattern, part_1a, part_1b, part_2, part_3}
use Rattle.segment_defs.specs.Head as head
use Rattle.segment_defs.specs.declared.head.SegmentHead.{SegmentHead}
use Rattle.segment_defs.specs.declared.head.ImagePart.{ImagePart}
use Rattle.segment_head.specs.declared.field.Field.{Field}

abbrev pub said : Field → head.Field
said f = field f.width f.value

-- the fields of Parts 1, 2 and 3
abbrev pub first_parts : SegmentHead → List head.Field
first_parts h = part_1a h ++ part_1b h ++ part_2 h ++ part_3 h

-- the fields of Part 4 before the weights
abbrev pub plain_fields : ImagePart → List head.Field
plain_fields image =
    flag true ∷ reserved 1 ∷ flag false ∷ flag image.signed ∷ field 4 (image.depth % 16) ∷ field 20 image.width
    ∷ flag false ∷ field 3 (word_pattern image.word) ∷ []
