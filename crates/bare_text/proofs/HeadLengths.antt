-- The numbers of bits of the parts of a head.
use Rattle.std.proofs.Common.{◌≡◌, ◌+◌, ◌*◌, ◌≤◌, List, [], ◌∷◌, ◌++◌, length, Bool, true, false, if◌then◌else◌, refl, sym, ap, ◌∙◌, subst, arith, flat_map}
use Rattle.segment_head.proofs.WrittenHeads.{octets_of_last}
use Rattle.segment_defs.specs.declared.head.SegmentHead.{SegmentHead}
use Rattle.segment_defs.specs.Head.{Field, field, reserved, field_bits, part_2, part_3, head_length}
use Rattle.segment_head.specs.declared.carried.Carried.{Carried}
use Rattle.segment_head.specs.Parts.{part_1a, part_1}
use Rattle.segment_defs.proofs.WrittenFields.{width_of, length-bits_in}
use Rattle.bare_text.specs.Writing.{fields_where}

pub length_first : (carried : Carried) (h : SegmentHead) (last : Bool) → h.last ≡ last → length (flat_map field_bits (part_1 carried h))
    ≡ 8 * (if last then 4 else 3)
length_first carried h true e = length-bits_in (part_1 carried h)
    ∙ subst (λ b. width_of (part_1a carried h ++ (if b then field 3 h.pad_rows ∷ reserved 5 ∷ [] else [])) ≡ 32) (sym e) refl
length_first carried h false e = length-bits_in (part_1 carried h)
    ∙ subst (λ b. width_of (part_1a carried h ++ (if b then field 3 h.pad_rows ∷ reserved 5 ∷ [] else [])) ≡ 24) (sym e) refl

pub length_where : (is_carried : Bool) (fields : List Field) → length (flat_map field_bits (fields_where is_carried fields))
    ≡ (if is_carried then width_of fields else 0)
length_where true fields = length-bits_in fields
length_where false fields = refl

-- the parts before Part 4 leave room for it
pub leave_room : (carried : Carried) (h : SegmentHead) (two three : Bool) →
    length (flat_map field_bits (part_1 carried h)) + length (flat_map field_bits (fields_where two (part_2 h)))
    + length (flat_map field_bits (fields_where three (part_3 h))) + 64 ≤ 8 * head_length h
leave_room carried h two three = by_last h.last refl two three
  where
    by_last : (last : Bool) → h.last ≡ last → (two three : Bool) →
        length (flat_map field_bits (part_1 carried h)) + length (flat_map field_bits (fields_where two (part_2 h)))
        + length (flat_map field_bits (fields_where three (part_3 h))) + 64 ≤ 8 * (if h.last then 20 else 19)
    by_last last e two three =
        let most : (if last then 4 else 3) + 16 ≡ (if h.last then 20 else 19) = ap (λ b. (if b then 4 else 3) + 16) (sym e) ∙ octets_of_last h.last in
        omega (arith, most, length_first carried h last e, length_where two (part_2 h), most_2 two, length_where three (part_3 h), most_3 three)
      where
        most_2 : (b : Bool) → (if b then width_of (part_2 h) else 0) ≤ 40
        most_2 true = omega arith
        most_2 false = omega arith

        most_3 : (b : Bool) → (if b then width_of (part_3 h) else 0) ≤ 24
        most_3 true = omega arith
        most_3 false = omega arith
