-- What a block sends in a plane, step by step: each raw bit or word, with the words that no values have there. (CCSDS 122.0-B-2, sections
-- 4.5.2 and 4.5.3; which words are refused is this
-- project's own.)
use Rattle.std.specs.Prelude.{ℕ, ◌+◌, ℤ, pos, Bool, false, not, ◌&&◌, ◌||◌, ◌==◌, if◌then◌else◌, List, [], ◌∷◌, ◌++◌, nat_lt, filter, map, length}
use Rattle.std.specs.List.{flat_map, list_any}
use lib.ListN.{get_or}
use Rattle.item_defs.specs.Bits.{bit, bits_of}
use Rattle.plane_defs.specs.declared.sets.Set.{Set}
use Rattle.plane_defs.specs.declared.sets.Set.TheVariants.{Descendants, Family, Grandchildren, Quad}
use Rattle.plane_defs.specs.declared.stages.Stage.{Stage}
use Rattle.plane_defs.specs.declared.stages.Stage.TheVariants as stages
use Rattle.plane_defs.specs.declared.entries.Entry.{Entry}
use Rattle.plane_defs.specs.declared.entries.Entry.TheVariants.{Bit}
use Rattle.plane_defs.specs.Spans.{span}
use Rattle.plane_defs.specs.Sets.{magnitude, significant, coded, set_significant, live, flag_due, newly_significant, refined, children_of, quad_of}
use Rattle.plane_defs.specs.Entries.{twos_bit, negative, word, types, flags, significant_families}

-- which words are refused: none, only the word of zeros, or those in which one of these ones is missing
pub data Check : Type 0 where
  free : Check
  some_one : Check
  ones_at : List Bool → Check

-- some wanted bit is missing
abbrev pub lacks_one : List Bool → List Bool → Bool
lacks_one [] bits = false
lacks_one (want ∷ wants) [] = false
lacks_one (want ∷ wants) (b ∷ bits) = (want && not b) || lacks_one wants bits

abbrev pub refuses : Check → ℕ → Bool
refuses free w = false
refuses some_one w = w == 0
refuses (ones_at wants) w = lacks_one wants (bits_of (length wants) w)

pub record Step : Type 0 where
  pub entry : Entry
  pub check : Check

abbrev pub step : Check → Entry → Step
step check entry = record { entry = entry; check = check }

abbrev pub some_one_where : Bool → Check
some_one_where b = if b then some_one else free

-- the set becomes significant in the plane
unfoldable pub is_new : List ℤ → ℕ → Set → Bool
is_new block plane s = set_significant block plane s && not (set_significant block (plane + 1) s)

-- ---- the types and flags of a word

abbrev pub typed_steps : List ℤ → List ℕ → ℕ → Check → List ℕ → List Step
typed_steps block weights plane check positions =
    step check (word (types block weights plane positions)) ∷ map (λ p. step free (Bit (negative (get_or block p (pos 0)))))
    (filter (newly_significant block weights plane) positions)

abbrev pub flags_step : List ℤ → List ℕ → ℕ → Check → List Set → Step
flags_step block weights plane check sets = step check (word (flags block weights plane sets))

-- ---- stages 0 and 1

abbrev pub dc_steps : List ℤ → List ℕ → ℕ → ℕ → List Step
dc_steps block weights plane q =
    if coded weights plane 0 && nat_lt plane q then step free (Bit (twos_bit (get_or block 0 (pos 0)) plane)) ∷ [] else []

abbrev pub parents_steps : List ℤ → List ℕ → ℕ → List Step
parents_steps block weights plane = typed_steps block weights plane free (span 1 3)

-- ---- stage 2: a new set of all descendants has a new family; a new family without grandchildren of this plane has a child

abbrev pub descendants_check : List ℤ → ℕ → Check
descendants_check block plane = some_one_where (is_new block plane Descendants)

abbrev pub children_check : List ℤ → List ℕ → ℕ → ℕ → Check
children_check block weights plane i =
    some_one_where (is_new block plane (Family i) && not (live weights plane (Grandchildren i)))

abbrev pub children_types_steps : List ℤ → List ℕ → ℕ → List Step
children_types_steps block weights plane =
    flat_map (λ i. typed_steps block weights plane (children_check block weights plane i) (span (children_of i) 4))
    (significant_families block plane Family)

abbrev pub children_steps : List ℤ → List ℕ → ℕ → List Step
children_steps block weights plane =
    map (λ b. step free (Bit b)) (flags block weights plane (Descendants ∷ [])) ++
    flags_step block weights plane (descendants_check block plane) (Family 0 ∷ Family 1 ∷ Family 2 ∷ [])
    ∷ children_types_steps block weights plane

-- ---- stage 3: a new family without a child has a grandchild; a new set of grandchildren has one too

-- the grandchildren of a new family of which no child is significant
unfoldable pub is_forced : List ℤ → ℕ → Set → Bool
is_forced block plane Descendants = false
is_forced block plane (Family i) = false
is_forced block plane (Grandchildren i) =
    is_new block plane (Family i) && not (list_any (significant block plane) (span (children_of i) 4))
is_forced block plane (Quad i j) = false

abbrev pub grandchildren_check : List ℤ → List ℕ → ℕ → List Set → Check
grandchildren_check block weights plane sets =
    ones_at (map (is_forced block plane) (filter (flag_due block weights plane) sets))

abbrev pub quads_types_steps : List ℤ → List ℕ → ℕ → ℕ → List Step
quads_types_steps block weights plane i =
    flat_map (λ j. typed_steps block weights plane (some_one_where (is_new block plane (Quad i j))) (span (quad_of i j) 4))
    (filter (λ j. set_significant block plane (Quad i j)) (span 0 4))

abbrev pub quads_steps : List ℤ → List ℕ → ℕ → ℕ → List Step
quads_steps block weights plane i =
    flags_step block weights plane (some_one_where (is_new block plane (Grandchildren i))) (Quad i 0 ∷ Quad i 1 ∷ Quad i 2 ∷ Quad i 3 ∷ [])
    ∷ quads_types_steps block weights plane i

abbrev pub all_quads_steps : List ℤ → List ℕ → ℕ → List Step
all_quads_steps block weights plane = flat_map (quads_steps block weights plane) (significant_families block plane Grandchildren)

abbrev pub three_grandchildren : List Set
three_grandchildren = Grandchildren 0 ∷ Grandchildren 1 ∷ Grandchildren 2 ∷ []

abbrev pub grandchildren_steps : List ℤ → List ℕ → ℕ → List Step
grandchildren_steps block weights plane =
    flags_step block weights plane (grandchildren_check block weights plane three_grandchildren) three_grandchildren
    ∷ all_quads_steps block weights plane

-- ---- stage 4

abbrev pub refinement_steps : List ℤ → List ℕ → ℕ → List Step
refinement_steps block weights plane =
    map (λ p. step free (Bit (bit (magnitude block p) plane))) (filter (refined block weights plane) (span 1 63))

-- ---- a stage of a block of depth d

unfoldable pub block_steps : Stage → List ℤ → ℕ → List ℕ → ℕ → ℕ → List Step
block_steps stages.DcBits block d weights plane q = dc_steps block weights plane q
block_steps stages.Parents block d weights plane q = if nat_lt plane d then parents_steps block weights plane else []
block_steps stages.Children block d weights plane q = if nat_lt plane d then children_steps block weights plane else []
block_steps stages.Grandchildren block d weights plane q = if nat_lt plane d then grandchildren_steps block weights plane else []
block_steps stages.Refinement block d weights plane q = if nat_lt plane d then refinement_steps block weights plane else []
