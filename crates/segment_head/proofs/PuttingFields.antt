-- Fields put one after another.
use Rattle.std.proofs.Common.{◌≡◌, ℕ, ◌≤◌, List, [], ◌∷◌, ◌++◌, length, map, Bool, refl, sym, ap, ◌∙◌, append_assoc, arith, true, false, bytes_eq, Result}
use Rattle.std.proofs.Common.{Ok, Err, ◌≢◌, flat_map}
use Rattle.base_122.specs.Weights.{usual_shifts}
use Rattle.std.proofs.lemmas.List.Concat.{flat_map-append, flat_map-cons}
use Rattle.item_defs.specs.Items.{Item, item_bits, plain, text}
use Rattle.bit_pipe.specs.Sinks.{SinkOf}
use Rattle.bit_pipe.specs.SinkState.{SinkState, EndsPut, Puts}
use Rattle.bit_pipe.specs.declared.fault.PutFault.{PutFault}
use Rattle.bit_pipe.specs.declared.fault.PutFault.TheVariants.{Stopped, WriteFault}
use Rattle.bit_pipe.proofs.Putting.{puts_cut, puts_then}
use Rattle.segment_defs.specs.declared.head.SegmentHead.{SegmentHead}
use Rattle.segment_defs.specs.declared.head.ImagePart.{ImagePart}
use Rattle.segment_defs.specs.Head.{Field, field, field_bits, flag, reserved, part_1a, part_1b, part_2, part_3, part_4, weight_fields, head_bits}
use Rattle.segment_head.specs.declared.carried.Carried.{Carried}
use Rattle.segment_head.specs.Parts as parts
use Rattle.segment_head.specs.Writing.{first_parts, plain_fields}
use Rattle.segment_defs.proofs.Equations.{head_bits-is}

-- a field as an item of a text
abbrev pub item_of : Field → Item
item_of f = plain f.width f.value

-- the text of items made of fields is the fields' bits
pub text_of_fields : {X : Type 0} (f : X → Field) (xs : List X) → text (map (λ x. item_of (f x)) xs) ≡ flat_map field_bits (map f xs)
text_of_fields f [] = refl
text_of_fields f (x ∷ xs) =
    flat_map-cons item_bits (item_of (f x)) (map (λ y. item_of (f y)) xs) ∙ ap (λ r. field_bits (f x) ++ r) (text_of_fields f xs)
    ∙ sym (flat_map-cons field_bits (f x) (map f xs))

-- ---- puts one after another

pub put_both : {S T U : Type 0} {k : SinkOf S} {x : U} {r : Result T PutFault} {a b c : SinkState S} {xs ys whole : List Bool} → Puts k (Ok x) a b xs →
    Puts k r b c ys → xs ++ ys ≡ whole → Puts k r a c whole
put_both p q e = rw (← e) (puts_then p.ends q)

pub put_cut : {S T U : Type 0} {k : SinkOf S} {e : PutFault} {a b : SinkState S} {xs : List Bool} (ys : List Bool) {whole : List Bool} →
    Puts {T = T} k (Err e) a b xs → xs ++ ys ≡ whole → Puts {T = U} k (Err e) a b whole
put_cut ys p e = rw (← e) (puts_cut ys p)

-- the bits of two lists of fields
pub bits_join : (fs gs all : List Field) → fs ++ gs ≡ all → flat_map field_bits fs ++ flat_map field_bits gs ≡ flat_map field_bits all
bits_join fs gs all e = sym (flat_map-append field_bits fs gs) ∙ ap (flat_map field_bits) e

pub part_1_fields : (carried : Carried) (h : SegmentHead) (fs : List Field) (pad five : Field) → fs ≡ parts.part_1a carried h → pad ≡ field 3 h.pad_rows →
    five ≡ reserved 5 → h.last ≡ true →
    fs ++ (pad ∷ five ∷ []) ≡ parts.part_1 carried h
part_1_fields carried h fs pad five e p q l = rw (e, p, q, l) refl

pub custom_fields : (shifts : List ℕ) (first : Field) → bytes_eq shifts usual_shifts ≡ false → first ≡ flag true →
    (first ∷ []) ++ map (field 2) shifts ≡ weight_fields shifts
custom_fields shifts first other f = rw (f, other) refl

-- the bits of Part 4, and of the whole head, part by part
pub part_4_bits : (image : ImagePart) → flat_map field_bits (plain_fields image)
    ++ (flat_map field_bits (weight_fields image.weights.shifts) ++ flat_map field_bits (reserved 11 ∷ [])) ≡ flat_map field_bits (part_4 image)
part_4_bits image =
    let w = weight_fields image.weights.shifts in
    let r : List Field = reserved 11 ∷ [] in
    sym (
    flat_map-append field_bits (plain_fields image ++ w) r
    ∙ ap (λ k. k ++ flat_map field_bits r) (flat_map-append field_bits (plain_fields image) w)
    ∙ append_assoc (flat_map field_bits (plain_fields image)) (flat_map field_bits w) (flat_map field_bits r)
    )

pub first_bits : (h : SegmentHead) →
    flat_map field_bits (part_1a h ++ part_1b h) ++ (flat_map field_bits (part_2 h) ++ flat_map field_bits (part_3 h)) ≡ flat_map field_bits (first_parts h)
first_bits h =
    let one = part_1a h ++ part_1b h in
    sym (
    flat_map-append field_bits (one ++ part_2 h) (part_3 h)
    ∙ ap (λ r. r ++ flat_map field_bits (part_3 h)) (flat_map-append field_bits one (part_2 h))
    ∙ append_assoc (flat_map field_bits one) (flat_map field_bits (part_2 h)) (flat_map field_bits (part_3 h))
    )

pub head_bits_parts : (h : SegmentHead) → flat_map field_bits (first_parts h) ++ flat_map field_bits (part_4 h.image) ≡ head_bits h
head_bits_parts h = simp (head_bits-is, head_bits-is) (sym (flat_map-append field_bits (first_parts h) (part_4 h.image)))

-- bits for which there is room are never stopped
pub never_stops : {S T : Type 0} {k : SinkOf S} {r : Result T PutFault} {a b : SinkState S} {bits : List Bool} → length bits ≤ a.room → Puts k r a b bits →
    r ≢ Err Stopped
never_stops {S} {T} {k} {r} {a} {b} {bits} le p = by_result r p.ends
  where
    by_result : (r : Result T PutFault) → EndsPut k r a b bits → r ≢ Err Stopped
    by_result (Ok x) e same = absurd cc
    by_result (Err Stopped) e same = absurd (omega (arith, e.0))
    by_result (Err WriteFault) e same = absurd cc
