-- How many bits the numbers of a segment take at most with the options that a writer chooses: a value of N bits takes at most N + 1.
use Rattle.std.proofs.Common.{◌≡◌, ℕ, zero, suc, ◌+◌, ◌-◌, ◌*◌, ◌/◌, ◌^◌, ◌<◌, ◌≤◌, List, [], ◌∷◌, ◌++◌, length, map, min, Bool, true, false, cond, eqb}
use Rattle.std.proofs.Common.{refl, ap, arith, inl, inr, ◌⊎◌, length-append, ℤ, slice_index, nat_le, nat_lt, mul-le-mul_right, mul-le-mul_left, sum, sum_by}
use Rattle.std.proofs.Common.{find, unwrap_or, Some, not, ◌||◌}
use Rattle.std.specs.List.{list_all, range_with_len}
use Rattle.std.proofs.Math.Nat.{div-mul-le_self, le_of_mul-le-mul_right}
use Rattle.std.proofs.lemmas.Bool.{and_parts}
use Rattle.std.proofs.lemmas.Bool.Decides.{nat_tests}
use Rattle.std.proofs.lemmas.Nat.{pow_pos, pow-add}
use Rattle.std.proofs.lemmas.List.{length-map}
use Rattle.std.proofs.lemmas.List.FromFn.{length-range_with_len}
use Rattle.std.proofs.lemmas.List.Sums.{sum_by-cons}
use Rattle.item_defs.specs.Items.{Item, text, item_bits, raw, identifier}
use Rattle.item_defs.proofs.Texts.{text-append, text-cons, text-one}
use Rattle.item_defs.proofs.NumberBits.{length-bits_of}
use Rattle.number_defs.specs.Ranges.{shifted_height}
use Rattle.number_defs.specs.Gaggles.{Kind, reference, is_option, identifier_bits, uncoded, value_at, places, first_place, value_items, lead_items}
use Rattle.number_defs.specs.Gaggles.{gaggle_items, gaggle_values, items_before, number_items, gaggle_count}
use Rattle.number_defs.specs.Choice.{coded_bits, suits, greatest_suiting, heuristic, optimal, is_least, candidates, choices}
use Rattle.number_defs.specs.DcPart.{dc_q, dc_bits, dc_kind, dc_bit, high_items, planes_before, dc_planes, dc_items, dc_choices}
use Rattle.number_defs.specs.Depths.{depth_bits, depth_kind, depth_items, depth_choices}
use Rattle.number_defs.specs.Laws.{AreFew, DcsFit}
use Rattle.number_defs.proofs.Chosen.{heuristic_is, optimal_is}
use Rattle.number_defs.proofs.CodedBits.{counts_bits}
use Rattle.number_defs.proofs.MappingLaws.{mapped_below}
use Rattle.number_defs.proofs.DcBits.{few_bits, q_small}
use Rattle.number_defs.proofs.SegmentSteps.{few_anywhere, heights_few}
use Rattle.number_defs.proofs.Suiting.{greatest_suiting-taken, greatest_suiting-passed, greatest_suiting-none, greatest_within}
use Rattle.plane_defs.specs.Spans.{span}
use Rattle.plane_defs.proofs.Tables.{list_all-span-zero}
use Rattle.number_defs.proofs.Equations.{coded_bits-is, optimal-is, heuristic-is}

-- ---- the bits of a gaggle's values under an option

over : (k : ℕ) (values : List ℕ) → sum_by (λ v. v / 2 ^ k) values * 2 ^ k ≤ sum values
over k [] = omega (arith, (let e : 0 * 2 ^ k ≡ 0 = omega arith in e))
over k (v ∷ vs) =
    let rest = over k vs in
    let here = div-mul-le_self v (2 ^ k) in
    let parts : (v / 2 ^ k + sum_by (λ v. v / 2 ^ k) vs) * 2 ^ k ≡ v / 2 ^ k * 2 ^ k + sum_by (λ v. v / 2 ^ k) vs * 2 ^ k = grind arith in
    let more : sum_by (λ v. v / 2 ^ k) (v ∷ vs) ≡ v / 2 ^ k + sum_by (λ v. v / 2 ^ k) vs = sum_by-cons (λ v. v / 2 ^ k) v vs in
    rw more (omega (arith, rest, here, parts, sum_by-cons (λ v. v) v vs))

split_bits : (k : ℕ) (values : List ℕ) → sum_by (λ v. (v / 2 ^ k + 1) + k) values ≡ sum_by (λ v. v / 2 ^ k) values + (k + 1) * length values
split_bits k [] = let e : (k + 1) * 0 ≡ 0 = omega arith in omega (arith, e)
split_bits k (v ∷ vs) =
    let rest = split_bits k vs in
    let more : (k + 1) * suc (length vs) ≡ (k + 1) * length vs + (k + 1) = grind arith in
    omega (arith, rest, more, sum_by-cons (λ v. (v / 2 ^ k + 1) + k) v vs, sum_by-cons (λ v. v / 2 ^ k) v vs)

module _ (N : ℕ) (two : 2 ≤ N) (values : List ℕ) where
  abbrev count : ℕ
  count = length values

  -- at most two zeros each
  split_few : (k : ℕ) → k + 2 ≤ N → sum values ≤ 2 * count * 2 ^ k → sum_by (λ v. (v / 2 ^ k + 1) + k) values ≤ count * (N + 1)
  split_few k le few =
      let some : 0 < 2 ^ k = pow_pos k in
      let zeros : sum_by (λ v. v / 2 ^ k) values ≤ 2 * count = le_of_mul-le-mul_right {m = sum_by (λ v. v / 2 ^ k) values} {n = 2 * count} {k =
      2 ^ k} (omega (arith, over k values, few)) some in
      let most : (k + 3) * count ≤ (N + 1) * count = mul-le-mul_right count (omega (arith, le)) in
      let parts : (k + 3) * count ≡ (k + 1) * count + 2 * count = grind arith in
      let turned : (N + 1) * count ≡ count * (N + 1) = grind arith in
      omega (arith, split_bits k values, zeros, most, parts, turned)

  plain_few : N * count ≤ count * (N + 1)
  plain_few = let e : count * (N + 1) ≡ N * count + count = grind arith in omega (arith, e)

  either_few : (o : ℕ) → sum_by (λ v. (v / 2 ^ o + 1) + o) values ≤ count * (N + 1) → coded_bits N values o ≤ count * (N + 1)
  either_few o few = rw coded_bits-is (by (eqb o (uncoded N)))
    where
      by : (b : Bool) → cond b (N * count) (sum_by (λ v. (v / 2 ^ o + 1) + o) values) ≤ count * (N + 1)
      by true = plain_few
      by false = few

  uncoded_few : coded_bits N values (uncoded N) ≤ count * (N + 1)
  uncoded_few = rw coded_bits-is (let e : eqb (uncoded N) (uncoded N) ≡ true = grind (arith, nat_tests) in rw e plain_few)

  -- ---- the heuristic choice

  -- the greatest k that suits is the greatest of all, or the next doesn't suit
  next_over : (total m : ℕ) → (greatest_suiting count total m ≡ m) ⊎ (128 * total + 49 * count < count * 2 ^ (greatest_suiting count total m + 8))
  next_over total zero = inl (greatest_suiting-none count total)
  next_over total (suc m) = by (suits count total (suc m)) refl (next_over total m)
    where
      by : (b : Bool) → suits count total (suc m) ≡ b → (greatest_suiting count total m ≡ m)
          ⊎ (128 * total + 49 * count < count * 2 ^ (greatest_suiting count total m + 8)) →
          (greatest_suiting count total (suc m) ≡ suc m) ⊎ (128 * total + 49 * count < count * 2 ^ (greatest_suiting count total (suc m) + 8))
      by true e before = inl (greatest_suiting-taken count total m e)
      by false e before =
          let same = greatest_suiting-passed count total m e in
          let above : 128 * total + 49 * count < count * 2 ^ (suc m + 7) = grind (arith, nat_tests) in
          rw same (elim before [
            | inl all ↦ inr (let p : suc m + 7 ≡ greatest_suiting count total m + 8 = omega (arith, all) in rw p at above)
            | inr more ↦ inr more
          ])

  heuristic_few : coded_bits N values (heuristic N values) ≤ count * (N + 1)
  heuristic_few = rw heuristic-is (by (nat_le (23 * count * 2 ^ N) (64 * sum values)) (nat_lt (128 * sum values) (207 * count)) refl refl)
    where
      total : ℕ
      total = sum values

      by : (high low : Bool) → nat_le (23 * count * 2 ^ N) (64 * sum values) ≡ high → nat_lt (128 * sum values) (207 * count) ≡ low →
          coded_bits N values (cond high (uncoded N) (cond low 0 (greatest_suiting count (sum values) (N - 2)))) ≤ count * (N + 1)
      by true low e f = uncoded_few
      by false true e f =
          let few : 128 * sum values < 207 * count = grind (arith, nat_tests) in
          let one : 2 * count * 2 ^ 0 ≡ 2 * count = omega arith in
          either_few 0 (split_few 0 (omega (arith, two)) (omega (arith, few, one)))
      by false false e f =
          let k = greatest_suiting count (sum values) (N - 2) in
          let within = greatest_within count (sum values) (N - 2) in
          let below : 64 * sum values < 23 * count * 2 ^ N = grind (arith, nat_tests) in
          either_few k (split_few k (omega (arith, two, within)) (elim (next_over (sum values) (N - 2)) [
            | inl all ↦
                let p : N ≡ k + 2 = omega (arith, all, two) in
                let q : 23 * count * 2 ^ (k + 2) ≡ 92 * (count * 2 ^ k) = rw (pow-add 2 k 2) (grind arith) in
                let r : 2 * count * 2 ^ k ≡ 2 * (count * 2 ^ k) = grind arith in
                let b : 64 * sum values < 23 * count * 2 ^ (k + 2) = rw p at below in
                omega (arith, b, q, r)
            | inr more ↦
                let q : count * 2 ^ (k + 8) ≡ 256 * (count * 2 ^ k) = rw (pow-add 2 k 8) (grind arith) in
                let r : 2 * count * 2 ^ k ≡ 2 * (count * 2 ^ k) = grind arith in
                omega (arith, more, q, r)
          ]))

  -- ---- the optimal choice

  found_or : (p : ℕ → Bool) (xs : List ℕ) (d : ℕ) → (p (unwrap_or (find p xs) d) ≡ true) ⊎ (unwrap_or (find p xs) d ≡ d)
  found_or p [] d = inr refl
  found_or p (x ∷ xs) d = by (p x) refl (found_or p xs d)
    where
      by : (b : Bool) → p x ≡ b → (p (unwrap_or (find p xs) d) ≡ true) ⊎ (unwrap_or (find p xs) d ≡ d) →
          (p (unwrap_or (cond b (Some x) (find p xs)) d) ≡ true) ⊎ (unwrap_or (cond b (Some x) (find p xs)) d ≡ d)
      by true e rest = inl e
      by false e rest = rest

  optimal_few : coded_bits N values (optimal N values) ≤ count * (N + 1)
  optimal_few = rw optimal-is (elim (found_or (is_least N values) (candidates N) (uncoded N)) [
    | inl least ↦
        let o = unwrap_or (find (is_least N values) (candidates N)) (uncoded N) in
        let first = (and_parts (nat_le (coded_bits N values o) (coded_bits N values (uncoded N)))
        (list_all (λ other. nat_le (coded_bits N values o) (coded_bits N values other)) (range_with_len 0 (N - 1))) least).0 in
        let le : coded_bits N values o ≤ coded_bits N values (uncoded N) = grind (arith, nat_tests) in
        omega (arith, le, uncoded_few)
    | inr plain ↦ rw plain uncoded_few
  ])

pub choice_few : (best : Bool) (N : ℕ) (values : List ℕ) → 2 ≤ N → coded_bits N values (cond best (optimal N values) (heuristic N values)) ≤ length values *
    (N + 1)
choice_few true N values two = optimal_few N two values
choice_few false N values two = heuristic_few N two values

-- ---- gaggles

identifier_small : (N : ℕ) → identifier_bits N ≤ 4
identifier_small N = grind (arith, nat_tests)

values_few : (count g : ℕ) → length (places count g) ≤ 16
values_few count g = omega (arith, length-range_with_len (first_place g) (min count (16 * g + 16) - first_place g))

-- bits of a gaggle of numbers of N bits: the option's identifier, the first number, and 16 values
abbrev pub gaggle_room : ℕ → ℕ
gaggle_room N = 4 + N + 16 * (N + 1)

lead_few : (kind : Kind) (heights : List ℕ) (g : ℕ) → length (text (lead_items kind heights g)) ≤ kind.bits
lead_few kind heights zero = let r = reference kind (slice_index heights 0) in omega (arith, ap length (text-one r), length-bits_of kind.bits r.said)
lead_few kind heights (suc g) = omega arith

module _ (kind : Kind) (heights : List ℕ) (below : AreFew kind.bits heights) (choice : ℕ → List ℕ → ℕ) (is : (values : List ℕ) →
    is_option kind.bits (choice kind.bits values) ≡ true)
    (cheap : (values : List ℕ) → coded_bits kind.bits values (choice kind.bits values) ≤ length values * (kind.bits + 1)) where
  abbrev N : ℕ
  N = kind.bits

  value_below : (i : ℕ) → value_at N heights i < 2 ^ N
  value_below i = mapped_below N (slice_index heights (i - 1)) (slice_index heights i) (few_anywhere N heights below (i - 1)) (few_anywhere N heights below i)

  gaggle_few : (g : ℕ) → length (text (gaggle_items kind heights (choices choice N heights g) g)) ≤ gaggle_room N
  unfolding gaggle_items
  gaggle_few g =
      let at = places (length heights) g in
      let values = gaggle_values N heights g in
      let option = choices choice N heights g in
      let ident : Item = identifier (identifier_bits N) (is_option N) option in
      let lead = lead_items kind heights g in
      let items = value_items kind heights option at in
      let coded = counts_bits kind heights option at (is values) value_below in
      let count : length values ≤ 16 = omega (arith, length-map at (value_at N heights), values_few (length heights) g) in
      let most : length values * (N + 1) ≤ 16 * (N + 1) = mul-le-mul_right (N + 1) count in
      let parts = ap length (text-cons ident (lead ++ items)) in
      let others = ap length (text-append lead items) in
      omega (
        arith,
        parts,
        others,
        coded,
        cheap values,
        most,
        length-append (item_bits ident) (text (lead ++ items)),
        length-append (text lead) (text items),
        length-bits_of (identifier_bits N) option,
        identifier_small N,
        lead_few kind heights g,
      )

  gaggles_few : (n : ℕ) → length (text (items_before kind heights (choices choice N heights) n)) ≤ n * gaggle_room N
  unfolding items_before
  gaggles_few zero = omega arith
  gaggles_few (suc g) =
      let rest = gaggles_few g in
      let here = gaggle_few g in
      let before = items_before kind heights (choices choice N heights) g in
      let items = gaggle_items kind heights (choices choice N heights g) g in
      let more : suc g * gaggle_room N ≡ g * gaggle_room N + gaggle_room N = grind arith in
      omega (arith, rest, here, more, ap length (text-append before items), length-append (text before) (text items))

  pub numbers_few : length (text (number_items kind heights (choices choice N heights))) ≤ gaggle_count (length heights) * gaggle_room N
  numbers_few = gaggles_few (gaggle_count (length heights))

-- ---- bit planes of the DC numbers

plane_bits : (b : ℕ) (dcs : List ℤ) → length (text (map (dc_bit b) dcs)) ≡ length dcs
plane_bits b [] = refl
plane_bits b (x ∷ xs) =
    let rest = plane_bits b xs in
    let first = dc_bit b x in
    omega (
      arith,
      rest,
      ap length (text-cons first (map (dc_bit b) xs)),
      length-append (item_bits first) (text (map (dc_bit b) xs)),
      length-bits_of 1 first.said,
    )

planes_few : (q : ℕ) (dcs : List ℤ) (n : ℕ) → length (text (planes_before q dcs n)) ≡ n * length dcs
unfolding planes_before
planes_few q dcs zero = omega arith
planes_few q dcs (suc n) =
    let rest = planes_few q dcs n in
    let here = plane_bits (q - suc n) dcs in
    let parts = ap length (text-append (planes_before q dcs n) (map (dc_bit (q - suc n)) dcs)) in
    let more : suc n * length dcs ≡ n * length dcs + length dcs = grind arith in
    omega (arith, rest, here, parts, more, length-append (text (planes_before q dcs n)) (text (map (dc_bit (q - suc n)) dcs)))

raw_bits : (ds : List ℕ) → length (text (map raw ds)) ≡ length ds
raw_bits [] = refl
raw_bits (d ∷ ds) =
    let rest = raw_bits ds in
    omega (arith, rest, ap length (text-cons (raw d) (map raw ds)), length-append (item_bits (raw d)) (text (map raw ds)), length-bits_of 1 d)

-- ---- the DC part and the block depths

choice_of : Bool → ℕ → List ℕ → ℕ
choice_of best N values = cond best (optimal N values) (heuristic N values)

choice_is : (best : Bool) (N : ℕ) → 2 ≤ N → (values : List ℕ) → is_option N (cond best (optimal N values) (heuristic N values)) ≡ true
choice_is true N two values = optimal_is N values two
choice_is false N two values = heuristic_is N values

narrow : (N m : ℕ) → N ≤ m → gaggle_room N ≤ gaggle_room m
narrow N m le = omega (arith, le)

module _ (best : Bool) where
  abbrev pub chosen : ℕ → List ℕ → ℕ
  chosen N values = cond best (optimal N values) (heuristic N values)

  high_few : (N q : ℕ) (dcs : List ℤ) → 1 ≤ N → N ≤ 10 → AreFew N (map (shifted_height true N q) dcs) →
      length (text (high_items N q dcs (choices chosen N (map (shifted_height true N q) dcs)))) ≤ gaggle_count (length dcs) * 190
  high_few N q dcs some few below = by (eqb N 1) refl
    where
      by : (one : Bool) → eqb N 1 ≡ one →
          length (text (cond one (map (dc_bit q) dcs) (number_items (dc_kind N) (map (shifted_height true N q) dcs)
          (choices chosen N (map (shifted_height true N q) dcs))))) ≤ gaggle_count (length dcs) * 190
      by true e = omega (arith, plane_bits q dcs)
      by false e =
          let two : 2 ≤ N = grind (arith, nat_tests) in
          let heights = map (shifted_height true N q) dcs in
          let all = numbers_few (dc_kind N) heights below chosen (choice_is best N two) (λ values. choice_few best N values two) in
          let count = length-map dcs (shifted_height true N q) in
          let same : gaggle_count (length heights) ≡ gaggle_count (length dcs) = ap gaggle_count count in
          let most : gaggle_count (length heights) * gaggle_room N ≤ gaggle_count (length heights) * gaggle_room 10 =
          mul-le-mul_left (gaggle_count (length heights)) (narrow N 10 few) in
          omega (arith, all, most, same)

  pub dcs_few : (D A s : ℕ) (dcs : List ℤ) → D ≤ 28 → s ≤ 3 → DcsFit D A s dcs → length (text (dc_items D A s dcs (dc_choices chosen D A s dcs))) ≤
      gaggle_count (length dcs) * 622
  unfolding dc_items
  dcs_few D A s dcs dc shift fit =
      let N = dc_bits D A s in
      let q = dc_q D A s in
      let n = dc_planes D A s in
      let high = high_few N q dcs (omega arith) (few_bits D A s) (heights_few N q dcs fit) in
      let planes = planes_few q dcs n in
      let depth : n ≤ 27 = omega (arith, q_small D A s dc shift) in
      let most : n * length dcs ≤ 27 * length dcs = mul-le-mul_right (length dcs) depth in
      let items = high_items N q dcs (dc_choices chosen D A s dcs) in
      omega (arith, high, planes, most, ap length (text-append items (planes_before q dcs n)), length-append (text items) (text (planes_before q dcs n)))

  small_bits : list_all (λ d. nat_le (depth_bits d) 5) (span 0 28) ≡ true
  unfolding span
  small_bits = refl

  five_bits : (A : ℕ) → A ≤ 27 → depth_bits A ≤ 5
  five_bits A le = let e = list_all-span-zero (λ d. nat_le (depth_bits d) 5) 28 A small_bits (omega (arith, le)) in grind (arith, nat_tests)

  deep_bits : list_all (λ d. not (nat_le 2 d) || nat_le 2 (depth_bits d)) (span 0 28) ≡ true
  unfolding span
  deep_bits = refl

  two_from : (d b : ℕ) → (not (nat_le 2 d) || nat_le 2 b) ≡ true → 2 ≤ d → 2 ≤ b
  two_from d b e two = grind (arith, nat_tests)

  pub depths_few : (A : ℕ) (ds : List ℕ) → A ≤ 27 → AreFew (depth_bits A) ds → length (text (depth_items A ds (depth_choices chosen A ds))) ≤ gaggle_count
      (length ds) * 105
  unfolding depth_items
  depths_few A ds ac few = by (eqb A 0) (eqb A 1) refl refl
    where
      by : (none one : Bool) → eqb A 0 ≡ none → eqb A 1 ≡ one →
          length (text (cond none [] (cond one (map raw ds) (number_items (depth_kind A) ds (depth_choices chosen A ds))))) ≤ gaggle_count (length ds) * 105
      by true one e f = omega arith
      by false true e f = omega (arith, raw_bits ds)
      by false false e f =
          let deep : 2 ≤ A = grind (arith, nat_tests) in
          let two : 2 ≤ depth_bits A = two_from A (depth_bits A) (list_all-span-zero (λ d. not (nat_le 2 d) || nat_le 2 (depth_bits d)) 28 A deep_bits
          (omega (arith, ac))) deep in
          let all = numbers_few (depth_kind A) ds few chosen (choice_is best (depth_bits A) two) (λ values. choice_few best (depth_bits A) values two) in
          let most : gaggle_count (length ds) * gaggle_room (depth_bits A) ≤ gaggle_count (length ds) * gaggle_room 5 =
          mul-le-mul_left (gaggle_count (length ds)) (narrow (depth_bits A) 5 (five_bits A ac)) in
          omega (arith, all, most)
