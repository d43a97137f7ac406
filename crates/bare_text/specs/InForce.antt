-- The octets of a head with absent parts, part by part, and the parts in force after it. (CCSDS 122.0-B-2, section 4.2, for the parts
-- and their flags; that an absent part has the octets in force is this project's own.)
use Rattle.std.specs.Prelude.{ℕ, ◌+◌, ◌*◌, ◌/◌, ◌||◌, Bool, false, if◌then◌else◌, List, ◌∷◌, ◌++◌, take, drop}
use lib.ListN.{get_or, replicate}
use Rattle.segment_defs.specs.Fields.{is_set}
use Rattle.segment_defs.specs.Reading.{part_1_length, after_part_1}
use Rattle.bare_text.specs.declared.parts.PartsInForce.{PartsInForce}

-- ---- sixteen octets of the Parts 2, 3 and 4, one after another

abbrev pub second_in : List ℕ → List ℕ
second_in parts = take 5 parts

abbrev pub third_in : List ℕ → List ℕ
third_in parts = take 3 (drop 5 parts)

abbrev pub fourth_in : List ℕ → List ℕ
fourth_in parts = drop 8 parts

-- ---- the octets of a head, of which some parts may be absent

-- a part that is carried is the first octets of the rest; the others are those of the part in force
abbrev pub part_or : Bool → (width : ℕ) → (rest force : List ℕ) → List ℕ
part_or is_carried width rest force = if is_carried then take width rest else force

abbrev pub rest_after : Bool → (width : ℕ) → List ℕ → List ℕ
rest_after is_carried width rest = if is_carried then drop width rest else rest

abbrev pub after_part_2 : List ℕ → List ℕ
after_part_2 octets = rest_after (is_set octets 21) 5 (after_part_1 octets)

abbrev pub after_part_3 : List ℕ → List ℕ
after_part_3 octets = rest_after (is_set octets 22) 3 (after_part_2 octets)

-- the octets of the head: those of Part 1, and of each part that is carried
abbrev pub bare_length : List ℕ → ℕ
bare_length octets =
    part_1_length octets + (if is_set octets 21 then 5 else 0) + (if is_set octets 22 then 3 else 0) + (if is_set octets 23 then 8 else 0)

-- ---- the parts in force

abbrev pub none_in_force : PartsInForce
none_in_force = record { carried = record { part_2 = false; part_3 = false; part_4 = false }; octets = replicate 16 0 }

-- the parts in force after a head with these octets
abbrev pub parts_after : PartsInForce → List ℕ → PartsInForce
parts_after before octets = record {
  carried = record {
    part_2 = is_set octets 21 || before.carried.part_2;
    part_3 = is_set octets 22 || before.carried.part_3;
    part_4 = is_set octets 23 || before.carried.part_4;
  };
  octets =
      part_or (is_set octets 21) 5 (after_part_1 octets) (second_in before.octets)
      ++ (part_or (is_set octets 22) 3 (after_part_2 octets) (third_in before.octets)
      ++ part_or (is_set octets 23) 8 (after_part_3 octets) (fourth_in before.octets));
}

-- Part 1 with all three flags set: they are the lowest bits of the third octet
abbrev pub whole_part_1 : List ℕ → List ℕ
whole_part_1 octets = take 2 octets ++ (get_or octets 2 0 / 8 * 8 + 7) ∷ drop 3 (take (part_1_length octets) octets)

-- the head completed with these parts, and with those in force after it
abbrev pub completed_with : (parts octets : List ℕ) → List ℕ
completed_with parts octets = whole_part_1 octets ++ parts

abbrev pub completed : PartsInForce → List ℕ → List ℕ
completed before octets = completed_with (parts_after before octets).octets octets
