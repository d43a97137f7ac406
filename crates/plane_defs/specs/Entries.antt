-- The raw bits and words that a block sends in a plane, made only from its values. (CCSDS 122.0-B-2, sections
-- 4.5.2 and 4.5.3; that a flag of a set is sent only if some member can have a bit in the plane is this
-- project's own.)
use Rattle.std.specs.Prelude.{ℕ, ◌<◌, ◌≤◌, ◌/◌, ◌%◌, ◌^◌, ℤ, pos, negsuc, Bool, true, false, ◌&&◌, ◌==◌, if◌then◌else◌, List, [], ◌∷◌, ◌++◌, nat_lt, filter}
use Rattle.std.specs.Prelude.{map, length}
use Rattle.std.specs.List.{flat_map}
use lib.ListN.{get_or}
use Rattle.item_defs.specs.Bits.{bit, value_of}
use Rattle.plane_defs.specs.declared.sets.Set.{Set}
use Rattle.plane_defs.specs.declared.sets.Set.TheVariants.{Descendants, Family, Grandchildren, Quad}
use Rattle.plane_defs.specs.declared.stages.Stage.{Stage}
use Rattle.plane_defs.specs.declared.stages.Stage.TheVariants as stages
use Rattle.plane_defs.specs.declared.entries.Entry.{Entry}
use Rattle.plane_defs.specs.declared.entries.Entry.TheVariants.{Bit, Word}
use Rattle.plane_defs.specs.Spans.{span}
use Rattle.plane_defs.specs.Sets.{magnitude, significant, coded, set_significant, type_due, flag_due, newly_significant, refined, children_of, quad_of}

-- bit `place` of a two's complement form
abbrev pub twos_bit : ℤ → ℕ → Bool
twos_bit (pos n) place = n / 2 ^ place % 2 == 1
twos_bit (negsuc n) place = n / 2 ^ place % 2 == 0

abbrev pub negative : ℤ → Bool
negative (pos n) = false
negative (negsuc n) = true

-- the word that has these bits
abbrev pub word : List Bool → Entry
word bits = Word (record { value = value_of bits; count = length bits })

-- the due types at these positions
abbrev pub types : List ℤ → List ℕ → ℕ → List ℕ → List Bool
types block weights plane positions =
    map (significant block plane) (filter (type_due block weights plane) positions)

-- the signs of the numbers there that become significant in this plane
abbrev pub signs : List ℤ → List ℕ → ℕ → List ℕ → List Entry
signs block weights plane positions =
    map (λ p. Bit (negative (get_or block p (pos 0)))) (filter (newly_significant block weights plane) positions)

-- the word of the due types at these positions, and its signs
abbrev pub typed : List ℤ → List ℕ → ℕ → List ℕ → List Entry
typed block weights plane positions =
    word (types block weights plane positions) ∷ signs block weights plane positions

-- the due flags of these sets
abbrev pub flags : List ℤ → List ℕ → ℕ → List Set → List Bool
flags block weights plane sets =
    map (set_significant block plane) (filter (flag_due block weights plane) sets)

-- those of the three families whose set is significant
abbrev pub significant_families : List ℤ → ℕ → (ℕ → Set) → List ℕ
significant_families block plane set_of = filter (λ i. set_significant block plane (set_of i)) (span 0 3)

abbrev pub dc_bits : List ℤ → List ℕ → ℕ → ℕ → List Entry
dc_bits block weights plane q =
    if coded weights plane 0 && nat_lt plane q then Bit (twos_bit (get_or block 0 (pos 0)) plane) ∷ [] else []

abbrev pub parents : List ℤ → List ℕ → ℕ → List Entry
parents block weights plane = typed block weights plane (span 1 3)

-- the types and signs of the children of significant families
abbrev pub children_types : List ℤ → List ℕ → ℕ → List Entry
children_types block weights plane =
    flat_map (λ i. typed block weights plane (span (children_of i) 4)) (significant_families block plane Family)

-- the flag of all descendants is a raw bit, those of the families are a word
abbrev pub children : List ℤ → List ℕ → ℕ → List Entry
children block weights plane =
    map Bit (flags block weights plane (Descendants ∷ [])) ++
    word (flags block weights plane (Family 0 ∷ Family 1 ∷ Family 2 ∷ [])) ∷
    children_types block weights plane

-- the types and signs of the significant sets of four grandchildren in a family
abbrev pub quads_types : List ℤ → List ℕ → ℕ → ℕ → List Entry
quads_types block weights plane i =
    flat_map (λ j. typed block weights plane (span (quad_of i j) 4))
    (filter (λ j. set_significant block plane (Quad i j)) (span 0 4))

-- what a significant set of sixteen grandchildren sends
abbrev pub quads : List ℤ → List ℕ → ℕ → ℕ → List Entry
quads block weights plane i =
    word (flags block weights plane (Quad i 0 ∷ Quad i 1 ∷ Quad i 2 ∷ Quad i 3 ∷ [])) ∷
    quads_types block weights plane i

abbrev pub all_quads : List ℤ → List ℕ → ℕ → List Entry
all_quads block weights plane = flat_map (quads block weights plane) (significant_families block plane Grandchildren)

abbrev pub grandchildren : List ℤ → List ℕ → ℕ → List Entry
grandchildren block weights plane =
    word (flags block weights plane (Grandchildren 0 ∷ Grandchildren 1 ∷ Grandchildren 2 ∷ [])) ∷
    all_quads block weights plane

abbrev pub refinement : List ℤ → List ℕ → ℕ → List Entry
refinement block weights plane =
    map (λ p. Bit (bit (magnitude block p) plane)) (filter (refined block weights plane) (span 1 63))

-- the entries of one stage of a block of depth d: in planes below its depth all of them, in the others only the DC's bit
unfoldable pub block_entries : Stage → List ℤ → ℕ → List ℕ → ℕ → ℕ → List Entry
block_entries stages.DcBits block d weights plane q = dc_bits block weights plane q
block_entries stages.Parents block d weights plane q = if nat_lt plane d then parents block weights plane else []
block_entries stages.Children block d weights plane q = if nat_lt plane d then children block weights plane else []
block_entries stages.Grandchildren block d weights plane q = if nat_lt plane d then grandchildren block weights plane else []
block_entries stages.Refinement block d weights plane q = if nat_lt plane d then refinement block weights plane else []

-- the stages in order
abbrev pub stage_number : ℕ → Stage
stage_number k =
    if k == 0 then stages.DcBits else if k == 1 then stages.Parents else if k == 2 then stages.Children else
    if k == 3 then stages.Grandchildren else stages.Refinement

-- a word has at most four bits
abbrev pub IsEntry : Entry → Type 0
IsEntry (Bit bit) = Unit {0}
IsEntry (Word bits) = (bits.count ≤ 4) × (bits.value < 2 ^ bits.count)
