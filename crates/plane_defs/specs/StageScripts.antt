-- What a block sends in each stage of a plane, as it is read. (docs/formats.md, "Bit planes"; CCSDS 122.0-B-2, section 4.5; what is
-- refused is this project's own.)
use Rattle.std.specs.Prelude.{ℕ, ◌+◌, ◌==◌, ◌&&◌, ◌||◌, not, Bool, true, false, if◌then◌else◌, nat_lt, List, map, filter, ℤ}
use Rattle.std.specs.List.{list_any}
use Rattle.base_122.specs.declared.book.Book.{Book}
use Rattle.plane_defs.specs.declared.sets.Set.{Set}
use Rattle.plane_defs.specs.declared.sets.Set.TheVariants.{Descendants, Family, Grandchildren, Quad}
use Rattle.plane_defs.specs.Spans.{span}
use Rattle.plane_defs.specs.Sets.{significant, coded, set_significant, live, type_due, refined, children_of, quad_of}
use Rattle.plane_defs.specs.Steps.{ones_at, some_one_where}
use Rattle.item_defs.specs.Scripts.{Script, done, then_ask, in_turn, ask_bit}
use Rattle.plane_defs.specs.States.{State, with_bits, with_raw, with_families, and_one}
use Rattle.plane_defs.specs.WordScripts.{due_script, types_script, group_script}

-- the book of codes, the shifts of the bands, the plane, and the low bits of the DC numbers that the DC part left out
pub record Terms : Type 0 where
  pub book : Book
  pub weights : List ℕ
  pub plane : ℕ
  pub q : ℕ

-- a block's numbers have what was read above the plane: the set is significant there
abbrev pub above : Terms → List ℤ → Set → Bool
above t block set = set_significant block (t.plane + 1) set

-- a flag of a set is due if the set is not significant above, some member can have a bit in the plane, and the enclosing set is significant
abbrev pub is_due : Terms → List ℤ → Set → (enclosing : Bool) → Bool
is_due t block set enclosing = enclosing && (not (above t block set) && live t.weights t.plane set)

-- position p has this bit of the plane, a raw bit
abbrev pub bit_script : ℕ → State → Script State State
bit_script p s = ask_bit s (λ b. done (with_raw (with_bits s (and_one (λ q. false) p b)) p))

-- ---- stage 0: bit b of the DC, if b is at least the shift of LL3 and below q

abbrev pub dc_bit_script : Terms → State → Script State State
dc_bit_script t s = if coded t.weights t.plane 0 && nat_lt t.plane t.q then bit_script 0 s else done s

-- ---- stage 1: the types of the three parents

abbrev pub parents_script : Terms → List ℤ → State → Script State State
parents_script t block = types_script t.book (type_due block t.weights t.plane) false (span 1 3)

-- ---- stage 2: the flag of B, the flags of D_0 to D_2, and for each i with D_i significant the types of its children

-- the flag of a set that no other encloses: whether the set is significant
abbrev pub flag_script : (is_live was : Bool) → State → Script State Bool
flag_script is_live was s = if not was && is_live then ask_bit s (λ b. done b) else done was

abbrev pub descendants_script : Terms → List ℤ → State → Script State Bool
descendants_script t block s = flag_script (live t.weights t.plane Descendants) (above t block Descendants) s

-- if B is new, some D_i is significant; if D_i is new, and no grandchild of it can have a bit, a child is significant
abbrev pub children_script : Terms → List ℤ → State → Script State State
children_script t block s =
    then_ask (descendants_script t block s) (λ all.
    then_ask (due_script t.book (λ i. is_due t block (Family i) all) (some_one_where (all && not (above t block Descendants))) (span 0 3) s) (λ r.
    let families : ℕ → Bool = λ i. above t block (Family i) || r.1 i in
    then_ask (in_turn (group_script t.book (type_due block t.weights t.plane) 4 families
    (λ i. r.1 i && not (live t.weights t.plane (Grandchildren i)))) 0 3 r.0)
    (λ u. done (with_families u families))))

-- ---- stage 3: the flags of G_0 to G_2; for each i with G_i significant the flags of H_i0 to H_i3, and for each j with H_ij significant
-- the types there

-- D_i is new, and no child of it is significant: then G_i is
abbrev pub is_childless : Terms → List ℤ → State → ℕ → Bool
is_childless t block s i =
    (s.families i && not (above t block (Family i))) && not (list_any (λ p. significant block (t.plane + 1) p || s.bits p) (span (children_of i) 4))

-- if G_i is new, some H_ij is significant; if H_ij is new, one of its numbers is
abbrev pub quads_script : Terms → List ℤ → (i : ℕ) → (is_new : Bool) → State → Script State State
quads_script t block i is_new s =
    then_ask (due_script t.book (λ j. is_due t block (Quad i j) true) (some_one_where is_new) (span 0 4) s) (λ r.
    in_turn (group_script t.book (type_due block t.weights t.plane) (quad_of i 0) (λ j. above t block (Quad i j) || r.1 j) r.1) 0 4 r.0)

abbrev pub grandchildren_script : Terms → List ℤ → State → Script State State
grandchildren_script t block s =
    let due : ℕ → Bool = λ i. is_due t block (Grandchildren i) (s.families i) in
    then_ask (due_script t.book due (ones_at (map (is_childless t block s) (filter due (span 0 3)))) (span 0 3) s) (λ r.
    in_turn (λ i u. if above t block (Grandchildren i) || r.1 i then quads_script t block i (r.1 i) u else done u) 0 3 r.0)

-- ---- stage 4: bit b of each AC number that is significant above and has a shift of at most b

abbrev pub refinement_script : Terms → List ℤ → State → Script State State
refinement_script t block = in_turn (λ p u. if refined block t.weights t.plane p then bit_script p u else done u) 1 63

-- ---- a stage of a block of this depth: in stages 1 to 4 a block of depth at most b sends nothing

abbrev pub stage_script : Terms → (stage depth : ℕ) → List ℤ → State → Script State State
stage_script t stage depth block s =
    if stage == 0 then dc_bit_script t s else
    if not (nat_lt t.plane depth) then done s else
    if stage == 1 then parents_script t block s else
    if stage == 2 then children_script t block s else
    if stage == 3 then grandchildren_script t block s else refinement_script t block s
