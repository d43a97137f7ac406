-- How many bits the numbers of a text have at most.
use Rattle.std.proofs.Common.{◌≡◌, ℕ, zero, suc, ◌+◌, ◌-◌, ◌*◌, ◌/◌, ◌^◌, ◌<◌, ◌≤◌, List, [], ◌∷◌, ◌++◌, length, map, min, get_or, Bool, true, false, cond}
use Rattle.std.proofs.Common.{eqb, refl, ap, arith, inl, inr, length-append, ℤ, slice_index, nat_le, nat_lt, ◌&&◌, pow_mono, All, mul-le-mul_right}
use Rattle.std.proofs.Common.{div-le_self}
use Rattle.std.specs.List.{list_all}
use Rattle.std.proofs.lemmas.Bool.{cases_Bool}
use Rattle.std.proofs.lemmas.Bool.Decides.{nat_tests}
use Rattle.std.proofs.lemmas.List.{length-map}
use Rattle.std.proofs.lemmas.List.FromFn.{length-range_with_len}
use Rattle.item_defs.specs.Items.{Item, text, item_bits, raw, identifier}
use Rattle.item_defs.proofs.Texts.{text-append, text-cons, text-one}
use Rattle.item_defs.proofs.NumberBits.{length-bits_of}
use Rattle.number_defs.specs.Ranges.{shifted_height}
use Rattle.number_defs.specs.Gaggles.{Kind, reference, is_option, identifier_bits, value_at, places, first_place, value_items, lead_items, gaggle_items}
use Rattle.number_defs.specs.Gaggles.{items_before, number_items, gaggle_count}
use Rattle.number_defs.specs.Choice.{coded_bits}
use Rattle.number_defs.specs.DcPart.{dc_q, dc_bits, dc_kind, dc_bit, high_items, planes_before, dc_planes, dc_items}
use Rattle.number_defs.specs.Depths.{depth_bits, depth_kind, depth_items}
use Rattle.number_defs.specs.Laws.{AreFew, DcsFit}
use Rattle.number_defs.proofs.CodedBits.{counts_bits}
use Rattle.number_defs.proofs.MappingLaws.{mapped_below}
use Rattle.number_defs.proofs.DcBits.{few_bits, q_small}
use Rattle.number_defs.proofs.SegmentSteps.{few_anywhere, heights_few}
use Rattle.gaggle_codes.proofs.Names.{uncoded_small, few_identifier_bits}
use Rattle.std.proofs.lemmas.List.Sums.{sum_by-le}
use Rattle.std.proofs.lemmas.List.Elements.{All-map}
use Rattle.plane_defs.specs.Spans.{span}
use Rattle.plane_defs.proofs.Tables.{list_all-span-zero}

-- ---- bits of a gaggle

option_small : (N option : ℕ) → is_option N option ≡ true → N ≤ 10 → option ≤ 15
option_small N option h le = let most = uncoded_small N in grind (arith, nat_tests)

value_bits : (v k : ℕ) → v < 2 ^ 10 → k ≤ 15 → v / 2 ^ k + 1 + k ≤ 1040
value_bits v k lt le = let less : v / 2 ^ k ≤ v = div-le_self v (2 ^ k) in omega (arith, less, lt)

-- values of at most 10 bits have at most 1,040 bits each, under an option
coded_few : (N option : ℕ) (values : List ℕ) → N ≤ 10 → option ≤ 15 → All (λ v. v < 2 ^ 10) values → coded_bits N values option ≤ length values * 1040
unfolding coded_bits
coded_few N option values le small below = grind (arith, nat_tests, mul-le-mul_right, sum_by-le, value_bits)

values_count : (count g : ℕ) → length (places count g) ≤ 16
values_count count g = omega (arith, length-range_with_len (first_place g) (min count (16 * g + 16) - first_place g))

lead_few : (kind : Kind) (heights : List ℕ) (g : ℕ) → kind.bits ≤ 10 → length (text (lead_items kind heights g)) ≤ 10
lead_few kind heights zero le =
    let r = reference kind (slice_index heights 0) in
    omega (arith, le, ap length (text-one r), length-bits_of kind.bits r.said)
lead_few kind heights (suc g) le = omega arith

module _ (kind : Kind) (heights : List ℕ) (few : kind.bits ≤ 10) (below : AreFew kind.bits heights) where
  value_below : (i : ℕ) → value_at kind.bits heights i < 2 ^ kind.bits
  value_below i = mapped_below kind.bits (slice_index heights (i - 1)) (slice_index heights i) (few_anywhere kind.bits heights below (i - 1))
      (few_anywhere kind.bits heights below i)

  gaggle_few : (option g : ℕ) → is_option kind.bits option ≡ true → length (text (gaggle_items kind heights option g)) ≤ 2 ^ 15
  unfolding gaggle_items
  gaggle_few option g h =
      let at = places (length heights) g in
      let values = map (value_at kind.bits heights) at in
      let ident : Item = identifier (identifier_bits kind.bits) (is_option kind.bits) option in
      let lead = lead_items kind heights g in
      let items = value_items kind heights option at in
      let small : All (λ v. v < 2 ^ 10) values = All-map (λ v. v < 2 ^ 10) (value_at kind.bits heights) at
      (λ k d lt. omega (arith, value_below (get_or at k d), pow_mono {i = kind.bits} {j = 10} few)) in
      let coded = counts_bits kind heights option at h value_below in
      let bound = coded_few kind.bits option values few (option_small kind.bits option h few) small in
      let parts = ap length (text-cons ident (lead ++ items)) in
      let others = ap length (text-append lead items) in
      omega (
        arith,
        parts,
        others,
        coded,
        bound,
        length-append (item_bits ident) (text (lead ++ items)),
        length-append (text lead) (text items),
        length-bits_of (identifier_bits kind.bits) option,
        few_identifier_bits kind.bits,
        lead_few kind heights g few,
        length-map at (value_at kind.bits heights),
        values_count (length heights) g,
      )

  pub gaggles_few : (options : ℕ → ℕ) (n : ℕ) → ((g : ℕ) → g < n → is_option kind.bits (options g) ≡ true) →
      length (text (items_before kind heights options n)) ≤ 2 ^ 15 * n
  unfolding items_before
  gaggles_few options zero known = omega arith
  gaggles_few options (suc g) known =
      let rest = gaggles_few options g (λ m lt. known m (omega arith)) in
      let here = gaggle_few (options g) g (known g (omega arith)) in
      let parts = ap length (text-append (items_before kind heights options g) (gaggle_items kind heights (options g) g)) in
      omega (arith, rest, here, parts, length-append (text (items_before kind heights options g)) (text (gaggle_items kind heights (options g) g)))

-- ---- planes

plane_bits : (b : ℕ) (dcs : List ℤ) → length (text (map (dc_bit b) dcs)) ≡ length dcs
plane_bits b [] = refl
plane_bits b (x ∷ xs) =
    let rest = plane_bits b xs in
    let first = dc_bit b x in
    omega (
      arith,
      rest,
      ap length (text-cons first (map (dc_bit b) xs)),
      length-append (item_bits first) (text (map (dc_bit b) xs)),
      length-bits_of 1 first.said,
    )

planes_few : (q : ℕ) (dcs : List ℤ) (n : ℕ) → length (text (planes_before q dcs n)) ≡ n * length dcs
unfolding planes_before
planes_few q dcs zero = omega arith
planes_few q dcs (suc n) =
    let rest = planes_few q dcs n in
    let here = plane_bits (q - suc n) dcs in
    let parts = ap length (text-append (planes_before q dcs n) (map (dc_bit (q - suc n)) dcs)) in
    let more : suc n * length dcs ≡ n * length dcs + length dcs = grind arith in
    omega (arith, rest, here, parts, more, length-append (text (planes_before q dcs n)) (text (map (dc_bit (q - suc n)) dcs)))

-- ---- the DC part

-- options that exist, for this number of numbers of N bits
abbrev Known : (N count : ℕ) (options : ℕ → ℕ) → Type 0
Known N count options = (g : ℕ) → g < gaggle_count count → is_option N (options g) ≡ true

high_few : (N q : ℕ) (dcs : List ℤ) (options : ℕ → ℕ) → 1 ≤ N → N ≤ 10 → length dcs < 2 ^ 20 → AreFew N (map (shifted_height true N q) dcs) →
    (2 ≤ N → Known N (length dcs) options) → length (text (high_items N q dcs options)) ≤ 2 ^ 31
high_few N q dcs options some few short below known = elim (cases_Bool (eqb N 1)) [
  | inl one ↦ rw one (omega (arith, plane_bits q dcs, short))
  | inr more ↦
      let two : 2 ≤ N = grind (arith, nat_tests) in
      let heights = map (shifted_height true N q) dcs in
      let count = length-map dcs (shifted_height true N q) in
      let all = gaggles_few (dc_kind N) heights few below options (gaggle_count (length heights)) (λ g lt. known two g (omega (arith, count, lt))) in
      rw more (omega (arith, all, short, count))
]

pub dc_few : (D A s : ℕ) (dcs : List ℤ) (options : ℕ → ℕ) → D ≤ 28 → s ≤ 3 → length dcs < 2 ^ 20 → DcsFit D A s dcs →
    (2 ≤ dc_bits D A s → Known (dc_bits D A s) (length dcs) options) →
    length (text (dc_items D A s dcs options)) ≤ 2 ^ 32
unfolding dc_items
dc_few D A s dcs options dc shift short fit known =
    let N = dc_bits D A s in
    let q = dc_q D A s in
    let n = dc_planes D A s in
    let high = high_few N q dcs options (omega arith) (few_bits D A s) short (heights_few N q dcs fit) known in
    let planes = planes_few q dcs n in
    let depth : n ≤ 27 = omega (arith, q_small D A s dc shift) in
    let most : n * length dcs ≤ 27 * length dcs = mul-le-mul_right (length dcs) depth in
    let parts = ap length (text-append (high_items N q dcs options) (planes_before q dcs n)) in
    omega (arith, high, planes, most, short, parts, length-append (text (high_items N q dcs options)) (text (planes_before q dcs n)))

-- ---- the block depths

depth_bits_hold : list_all (λ d. nat_le (depth_bits d) 10 && nat_lt d (2 ^ depth_bits d)) (span 0 28) ≡ true
unfolding span
depth_bits_hold = refl

held_by : (d b : ℕ) → (nat_le b 10 && nat_lt d (2 ^ b)) ≡ true → (b ≤ 10) × (d < 2 ^ b)
held_by d b e = (grind (arith, nat_tests), grind (arith, nat_tests))

-- the bits of each depth hold the greatest one
pub depth_held : (A : ℕ) → A ≤ 27 → (depth_bits A ≤ 10) × (A < 2 ^ depth_bits A)
depth_held A le = held_by A (depth_bits A) (list_all-span-zero (λ d. nat_le (depth_bits d) 10 && nat_lt d (2 ^ depth_bits d)) 28 A depth_bits_hold
    (omega arith))

raw_bits : (ds : List ℕ) → length (text (map raw ds)) ≡ length ds
raw_bits [] = refl
raw_bits (d ∷ ds) =
    let rest = raw_bits ds in
    omega (arith, rest, ap length (text-cons (raw d) (map raw ds)), length-append (item_bits (raw d)) (text (map raw ds)), length-bits_of 1 d)

pub depths_few : (A : ℕ) (ds : List ℕ) (options : ℕ → ℕ) → A ≤ 27 → length ds < 2 ^ 20 → AreFew (depth_bits A) ds →
    (2 ≤ A → Known (depth_bits A) (length ds) options) →
    length (text (depth_items A ds options)) ≤ 2 ^ 31
unfolding depth_items
depths_few A ds options ac short few known = by_depth (eqb A 0) (eqb A 1) refl refl
  where
    by_depth : (none one : Bool) → eqb A 0 ≡ none → eqb A 1 ≡ one →
        length (text (cond none [] (cond one (map raw ds) (number_items (depth_kind A) ds options)))) ≤ 2 ^ 31
    by_depth true one e f = omega arith
    by_depth false true e f = omega (arith, raw_bits ds, short)
    by_depth false false e f =
        let two : 2 ≤ A = grind (arith, nat_tests) in
        let all = gaggles_few (depth_kind A) ds (depth_held A ac).0 few options (gaggle_count (length ds)) (known two) in
        omega (arith, all, short)
