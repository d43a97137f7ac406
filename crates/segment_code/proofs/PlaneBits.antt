-- How many bits a plane of a segment takes at most.
use Rattle.std.proofs.Common.{◌≡◌, ℕ, zero, suc, add-one, zero-add, ◌+◌, ◌*◌, ◌^◌, ◌<◌, ◌≤◌, Bool, true, cond, List, [], ◌∷◌, ◌++◌, length, get_or, ℤ, pos}
use Rattle.std.proofs.Common.{ap, sym, ◌∙◌, arith, length-append, map, filter, nat_lt, ◌&&◌, flat_map, mul-le-mul_right}
use Rattle.std.proofs.lemmas.Bool.Decides.{nat_tests}
use Rattle.item_defs.specs.Bits.{bit}
use Rattle.item_defs.specs.Items.{text}
use Rattle.item_defs.proofs.Texts.{text-append}
use Rattle.base_122.specs.declared.book.Book.{Book}
use Rattle.plane_defs.proofs.StepItems.{AreOptionsOf}
use Rattle.plane_defs.specs.Codes.{is_book_sound}
use Rattle.plane_defs.specs.declared.sets.Set.{Set}
use Rattle.plane_defs.specs.declared.sets.Set.TheVariants.{Descendants, Family, Grandchildren, Quad}
use Rattle.plane_defs.specs.declared.stages.Stage.{Stage}
use Rattle.plane_defs.specs.declared.stages.Stage.TheVariants as stages
use Rattle.plane_defs.specs.declared.entries.Entry.{Entry}
use Rattle.plane_defs.specs.declared.entries.Entry.TheVariants.{Bit}
use Rattle.plane_defs.specs.Spans.{span}
use Rattle.plane_defs.specs.Sets.{magnitude, coded, set_significant, newly_significant, flag_due, refined, children_of, quad_of}
use Rattle.plane_defs.specs.Entries.{twos_bit, negative, word, flags, typed, parents, children, children_types, quads, quads_types, all_quads}
use Rattle.plane_defs.specs.Entries.{grandchildren, refinement, significant_families, block_entries, stage_number}
use Rattle.plane_defs.specs.Planes.{Plane, gaggles, gaggle_size, of_block, of_gaggle, before_stage, gaggle_items, stage_items, plane_items}
use Rattle.plane_defs.proofs.Fitting.{Fit, fit_each, fit_block}
use Rattle.plane_defs.proofs.SpanLists.{length-map-filter, flat_map-span-suc}
use Rattle.segment_code.proofs.EntryBits.{most_of, spelled_few, most_both, most_each, bits_most, text_each, length_span, chosen_few}

-- ---- the stages of a block

module _ (block : List ℤ) (weights : List ℕ) (plane : ℕ) where
  typed_most : (start count : ℕ) → most_of (typed block weights plane (span start count)) ≤ 10 + count
  typed_most start count =
      let new = filter (newly_significant block weights plane) (span start count) in
      omega (arith, bits_most (λ p. negative (get_or block p (pos 0))) new, chosen_few (newly_significant block weights plane) start count)

  families_few : (set_of : ℕ → Set) → length (significant_families block plane set_of) ≤ 3
  families_few set_of = chosen_few (λ i. set_significant block plane (set_of i)) 0 3

  children_most : most_of (children block weights plane) ≤ 53
  children_most =
      let first = flags block weights plane (Descendants ∷ []) in
      let f = λ (i : ℕ). typed block weights plane (span (children_of i) 4) in
      let types : most_of (children_types block weights plane) ≤ length (significant_families block plane Family) * 14 =
      most_each f 14 (significant_families block plane Family) (λ i. typed_most (children_of i) 4) in
      omega (
        arith,
        types,
        families_few Family,
        bits_most (λ b. b) first,
        length-map-filter (set_significant block plane) (flag_due block weights plane) (Descendants ∷ []),
        most_both (map Bit first) (word (flags block weights plane (Family 0 ∷ Family 1 ∷ Family 2 ∷ [])) ∷ children_types block weights plane),
      )

  quads_most : (i : ℕ) → most_of (quads block weights plane i) ≤ 66
  quads_most i =
      let some = filter (λ j. set_significant block plane (Quad i j)) (span 0 4) in
      let types : most_of (quads_types block weights plane i) ≤ length some * 14 =
      most_each (λ j. typed block weights plane (span (quad_of i j) 4)) 14 some (λ j. typed_most (quad_of i j) 4) in
      omega (arith, types, chosen_few (λ j. set_significant block plane (Quad i j)) 0 4)

  grandchildren_most : most_of (grandchildren block weights plane) ≤ 208
  grandchildren_most =
      let all : most_of (all_quads block weights plane) ≤ length (significant_families block plane Grandchildren) * 66 =
      most_each (quads block weights plane) 66 (significant_families block plane Grandchildren) quads_most in
      omega (arith, all, families_few Grandchildren)

  refinement_most : most_of (refinement block weights plane) ≤ 63
  refinement_most =
      omega (
        arith,
        bits_most (λ p. bit (magnitude block p) plane) (filter (refined block weights plane) (span 1 63)),
        chosen_few (refined block weights plane) 1 63,
      )

abbrev stage_most : Stage → ℕ
stage_most stages.DcBits = 1
stage_most stages.Parents = 13
stage_most stages.Children = 53
stage_most stages.Grandchildren = 208
stage_most stages.Refinement = 63

where_sent : (b : Bool) (xs : List Entry) (m : ℕ) → most_of xs ≤ m → most_of (cond b xs []) ≤ m
where_sent b xs m le = grind (arith, nat_tests)

block_most : (stage : Stage) (block : List ℤ) (d : ℕ) (weights : List ℕ) (plane q : ℕ) → most_of (block_entries stage block d weights plane q) ≤ stage_most
    stage
unfolding block_entries
block_most stages.DcBits block d weights plane q = where_sent (coded weights plane 0 && nat_lt plane q) (Bit (twos_bit (get_or block 0 (pos 0)) plane) ∷ [])
    1 (omega arith)
block_most stages.Parents block d weights plane q = where_sent (nat_lt plane d) (parents block weights plane) 13 (typed_most block weights plane 1 3)
block_most stages.Children block d weights plane q = where_sent (nat_lt plane d) (children block weights plane) 53 (children_most block weights plane)
block_most stages.Grandchildren block d weights plane q =
    where_sent (nat_lt plane d) (grandchildren block weights plane) 208 (grandchildren_most block weights plane)
block_most stages.Refinement block d weights plane q = where_sent (nat_lt plane d) (refinement block weights plane) 63 (refinement_most block weights plane)

-- ---- a plane

-- the bits of the stages before this one
abbrev stages_most : ℕ → ℕ
stages_most zero = 0
stages_most (suc k) = stages_most k + stage_most (stage_number k)

all_stages_most : (k : ℕ) → k ≤ 5 → stages_most k ≤ 338
all_stages_most k le = grind (arith, nat_tests)

module _ (book : Book) (sound : is_book_sound book ≡ true) (options : ℕ → List ℕ) (known : (g : ℕ) → AreOptionsOf (options g)) (p : Plane)
    (short : length p.depths < 2 ^ 20) where
  gaggle_few : (k g : ℕ) → length (text (gaggle_items book options p k g)) ≤ 16 * stage_most (stage_number k)
  gaggle_few k g =
      let stage = stage_number k in
      let places = span (16 * g) (gaggle_size p g) in
      let fit : Fit (of_gaggle p stage g) = fit_each (of_block p stage) places (λ r. fit_block stage (get_or p.blocks r []) (get_or p.depths r 0) p.weights
      p.number p.q) in
      let spelled = spelled_few book sound (options g) (known g) (before_stage p k g) (of_gaggle p stage g) fit in
      let sum = most_each (of_block p stage) (stage_most stage) places (λ r. block_most stage (get_or p.blocks r []) (get_or p.depths r 0) p.weights
      p.number p.q) in
      let count : length places ≤ 16 = omega (arith, length_span (16 * g) (gaggle_size p g)) in
      let most : length places * stage_most stage ≤ 16 * stage_most stage = mul-le-mul_right (stage_most stage) count in
      omega (arith, spelled, sum, most)

  stage_few : (k : ℕ) → length (text (stage_items book options p k)) ≤ 2 ^ 20 * stage_most (stage_number k)
  stage_few k =
      let sum = text_each (gaggle_items book options p k) (16 * stage_most (stage_number k)) (span 0 (gaggles p)) (gaggle_few k) in
      let count : length (span 0 (gaggles p)) ≤ 65536 = omega (arith, short, length_span 0 (gaggles p)) in
      let most : length (span 0 (gaggles p)) * (16 * stage_most (stage_number k)) ≤ 65536 * (16 * stage_most (stage_number k)) =
      mul-le-mul_right (16 * stage_most (stage_number k)) count in
      omega (arith, sum, most)

  stages_few : (k : ℕ) → length (text (plane_items book options p k)) ≤ 2 ^ 20 * stages_most k
  unfolding span
  stages_few zero = omega arith
  stages_few (suc k) =
      let rest = stages_few k in
      let here = stage_few k in
      let first = plane_items book options p k in
      let parts : plane_items book options p (suc k) ≡ first ++ stage_items book options p k =
      let f = stage_items book options p in
      ap (λ m. flat_map f (span 0 m)) (sym (add-one k)) ∙ flat_map-span-suc f 0 k ∙ ap (λ m. flat_map f (span 0 k) ++ f m) (zero-add k) in
      omega (
        arith,
        rest,
        here,
        ap (λ l. length (text l)) parts,
        ap length (text-append first (stage_items book options p k)),
        length-append (text first) (text (stage_items book options p k)),
      )

  pub plane_few : (k : ℕ) → k ≤ 5 → length (text (plane_items book options p k)) ≤ 2 ^ 20 * 338
  plane_few k le = omega (arith, stages_few k, all_stages_most k le)
