-- The parts of a head that carries some of the Parts 2, 3 and 4 (CCSDS 122.0-B-2, section 4.2; which heads do so is this
-- project's own).
use Rattle.std.specs.Prelude.{ℕ, true, List, [], ◌∷◌, ◌++◌}
use Rattle.segment_defs.specs.Fields.{is_set}
use Rattle.segment_defs.specs.Head.{Field, field, flag, reserved, part_1b}
use Rattle.segment_defs.specs.declared.head.SegmentHead.{SegmentHead}
use Rattle.segment_head.specs.declared.carried.Carried.{Carried}

abbrev pub all_carried : Carried
all_carried = record { part_2 = true; part_3 = true; part_4 = true }

-- Part 1A, with a flag for each of the Parts 2, 3 and 4
abbrev pub part_1a : Carried → SegmentHead → List Field
part_1a carried h =
    flag h.first ∷ flag h.last ∷ field 8 h.count ∷ field 5 h.depth_dc ∷ field 5 h.depth_ac ∷ reserved 1
    ∷ flag carried.part_2 ∷ flag carried.part_3 ∷ flag carried.part_4 ∷ []

-- Part 1: 1A, and 1B only in the last segment
abbrev pub part_1 : Carried → SegmentHead → List Field
part_1 carried h = part_1a carried h ++ part_1b h

-- the flags in the octets of a head
abbrev pub carried_in : List ℕ → Carried
carried_in octets = record { part_2 = is_set octets 21; part_3 = is_set octets 22; part_4 = is_set octets 23 }
