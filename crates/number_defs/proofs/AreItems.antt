-- No item of numbers that are not too great is refused.
use Rattle.std.proofs.Common.{◌≡◌, ◌⊎◌, ℕ, zero, suc, ◌+◌, ◌*◌, ◌-◌, ◌/◌, ◌%◌, ◌^◌, ◌<◌, ◌≤◌, min, max, List, [], ◌∷◌, ◌++◌, length, map, take, get_or}
use Rattle.std.proofs.Common.{Bool, true, false, eqb, cond, refl, sym, ap, subst, ◌∙◌, arith, inl, inr, ℤ, Some, None, not, ◌||◌}
use Rattle.std.specs.List.{range_with_len}
use Rattle.std.specs.Int.{int_shr}
use Rattle.std.proofs.lemmas.Bool.{cases_lt, le-ltb}
use Rattle.std.proofs.lemmas.Bool.Decides.{nat_tests}
use Rattle.std.proofs.lemmas.List.{length-map, take_all}
use Rattle.std.proofs.lemmas.List.FromFn.{length-range_with_len}
use Rattle.std.proofs.lemmas.Nat.{shr_split, pow_pos, mod_below}
use Rattle.item_defs.specs.Items.{Item, Refusal, bad_delta, bad_depth, bad_option, raw}
use Rattle.item_defs.specs.Readings.{IsItem, AreItems}
use Rattle.item_defs.proofs.ReadingLaws.{are_append}
use Rattle.number_defs.specs.Given.{numbers_through}
use Rattle.number_defs.specs.Ranges.{negatives, number_at, shifted_height}
use Rattle.item_defs.specs.TwosComplement.{complement}
use Rattle.number_defs.specs.Gaggles.{Kind, identifier_bits, uncoded, is_option, value_at, first_place, places, depth_refusal, uncoded_value, unary_part}
use Rattle.number_defs.specs.Gaggles.{rest_part, value_items, lead_items, gaggle_items, items_before, gaggle_count, number_items}
use Rattle.number_defs.specs.DcPart.{dc_q, dc_bits, dc_kind, dc_bit, high_items, planes_before, dc_planes, dc_items}
use Rattle.number_defs.specs.Depths.{depth_bits, depth_kind, depth_items}
use Rattle.number_defs.specs.Laws.{AreFew, DcsFit}
use Rattle.number_defs.proofs.CodedBits.{high_small}
use Rattle.number_defs.proofs.MappingLaws.{mapped_below, mapped_back}
use Rattle.number_defs.proofs.Heights.{complement_back}
use Rattle.number_defs.proofs.DcBits.{few_bits}
use Rattle.number_defs.proofs.SegmentSteps.{few_anywhere, heights_few}

none_of : (name : Refusal) (test : Bool) → test ≡ false → cond test (Some name) None ≡ None
none_of name test e = ap (λ b. cond b (Some name) None) e

each_item : {X : Type 0} (f : X → Item) → ((x : X) → IsItem (f x)) → (xs : List X) → AreItems (map f xs)
each_item f item [] = tt
each_item f item (x ∷ xs) = (item x, each_item f item xs)

prefix_none : (m : ℕ) → AreItems (take m [])
prefix_none m = subst AreItems (sym (take_all m [] (omega arith))) tt

pub prefix_both : (m : ℕ) (is js : List Item) → AreItems (take m is) → AreItems (take (m - length is) js) → AreItems (take m (is ++ js))
prefix_both zero is js p q = tt
prefix_both (suc m) [] js p q = subst (λ n. AreItems (take n js)) (let z : suc m - 0 ≡ suc m = omega arith in z) q
prefix_both (suc m) (i ∷ is) js p q = (
  p.0,
  prefix_both m is js p.1 (subst (λ n. AreItems (take n js)) (let z : suc m - suc (length is) ≡ m - length is =
      omega arith in z) q),
)

-- the first m of the items of some places
range_prefix : (f : ℕ → Item) (a n m : ℕ) → ((i : ℕ) → a ≤ i → i < a + n → i < a + m → IsItem (f i)) → AreItems (take m (map f (range_with_len a n)))
range_prefix f a zero m item = prefix_none m
range_prefix f a (suc n) zero item = tt
range_prefix f a (suc n) (suc m) item = (
  item a (omega arith) (omega arith) (omega arith),
  range_prefix f (a + 1) n m (λ i from to inside. item i (omega arith) (omega arith) (omega arith)),
)

complement_small : (w : ℕ) (z : ℤ) → complement w z < 2 ^ w
complement_small w z = grind (arith, nat_tests, mod_below, pow_pos)

identifier_small : (N option : ℕ) → N ≤ 10 → is_option N option ≡ true → option < 2 ^ identifier_bits N
identifier_small N option few e = grind (arith, nat_tests)

pub option_within : (N option : ℕ) → is_option N option ≡ true → eqb option (uncoded N) ≡ false → option ≤ N - 2
option_within N option e f = grind (arith, nat_tests)

module _ (kind : Kind) (xs : List ℕ) (few : (i : ℕ) → get_or xs i 0 < 2 ^ kind.bits) where
  -- a number is not too great
  abbrev IsLow : ℕ → Type 0
  IsLow i = kind.too_great (get_or xs i 0) ≡ false

  value_small : (i : ℕ) → value_at kind.bits xs i < 2 ^ kind.bits
  value_small i = mapped_below kind.bits (get_or xs (i - 1) 0) (get_or xs i 0) (few (i - 1)) (few i)

  value_allowed : (i v : ℕ) → IsLow i → v ≡ value_at kind.bits xs i → depth_refusal kind (get_or xs (i - 1) 0) v ≡ None
  value_allowed i v low e = grind (arith, nat_tests, none_of, mapped_back)

  uncoded_item : (i : ℕ) → IsLow i → IsItem (uncoded_value kind xs i)
  uncoded_item i low = (tt, value_small i, value_allowed i (value_at kind.bits xs i) low refl)

  unary_item : (k i : ℕ) → k ≤ kind.bits → (k ≡ 0 → IsLow i) → IsItem (unary_part kind xs k i)
  unary_item k i le low =
      let small = high_small kind.bits k (value_at kind.bits xs i) le (value_small i) in (
        tt,
        (let s : value_at kind.bits xs i / 2 ^ k ≤ 2 ^ (kind.bits - k) = omega (arith, small) in s),
        by_count (eqb (value_at kind.bits xs i / 2 ^ k) (2 ^ (kind.bits - k))) (eqb k 0) (differs small) refl,
      )
    where
      differs : {a b : ℕ} → a < b → eqb a b ≡ false
      differs lt = grind (arith, nat_tests)

      by_count : (most whole : Bool) → most ≡ false → eqb k 0 ≡ whole →
          cond most (Some bad_delta) (cond whole (depth_refusal kind (get_or xs (i - 1) 0) (value_at kind.bits xs i / 2 ^ k)) None) ≡ None
      by_count most whole e f = grind (arith, nat_tests, value_allowed)

  rest_item : (k i : ℕ) → IsLow i → IsItem (rest_part kind xs k i)
  rest_item k i low = (tt, mod_below (value_at kind.bits xs i) (2 ^ k) (pow_pos k), value_allowed i _ low (shr_split (value_at kind.bits xs i) k))

  -- the first m of these values, if those that they make whole are not too great
  values_prefix : (option a n m : ℕ) → is_option kind.bits option ≡ true →
      ((i : ℕ) → a ≤ i → i < a + n → cond (eqb option (uncoded kind.bits) || eqb option 0) 0 n + (i - a + 1) ≤ m → IsLow i) →
      AreItems (take m (value_items kind xs option (range_with_len a n)))
  unfolding value_items
  values_prefix option a n m valid low = by_option (eqb option (uncoded kind.bits)) (eqb option 0) refl refl low
    where
      by_option : (plain zeros : Bool) → eqb option (uncoded kind.bits) ≡ plain → eqb option 0 ≡ zeros →
          ((i : ℕ) → a ≤ i → i < a + n → cond (plain || zeros) 0 n + (i - a + 1) ≤ m → IsLow i) →
          AreItems (take m (cond plain (map (uncoded_value kind xs) (range_with_len a n))
          (map (unary_part kind xs option) (range_with_len a n) ++ cond zeros [] (map (rest_part kind xs option) (range_with_len a n)))))
      by_option true zeros e f low = range_prefix (uncoded_value kind xs) a n m (λ i from to inside. uncoded_item i (low i from to (omega (arith, inside))))
      by_option false zeros e f low = prefix_both m (map (unary_part kind xs option) (range_with_len a n)) _ (unary zeros f low) (rests zeros low)
        where
          le : option ≤ kind.bits
          le = omega (arith, option_within kind.bits option valid e)

          long : length (map (unary_part kind xs option) (range_with_len a n)) ≡ n
          long = length-map (range_with_len a n) (unary_part kind xs option) ∙ length-range_with_len a n

          unary : (zeros : Bool) → eqb option 0 ≡ zeros → ((i : ℕ) → a ≤ i → i < a + n → cond zeros 0 n + (i - a + 1) ≤ m → IsLow i) →
              AreItems (take m (map (unary_part kind xs option) (range_with_len a n)))
          unary true f low = range_prefix (unary_part kind xs option) a n m
              (λ i from to inside. unary_item option i le (λ z. low i from to (omega (arith, inside))))
          unary false f low = range_prefix (unary_part kind xs option) a n m (λ i from to inside. unary_item option i le (λ z. absurd (some z f)))
            where
              some : option ≡ 0 → eqb option 0 ≡ false → ⊥
              some z f = grind (arith, nat_tests)

          rests : (zeros : Bool) → ((i : ℕ) → a ≤ i → i < a + n → cond zeros 0 n + (i - a + 1) ≤ m → IsLow i) →
              AreItems (take (m - length (map (unary_part kind xs option) (range_with_len a n)))
              (cond zeros [] (map (rest_part kind xs option) (range_with_len a n))))
          rests true low = prefix_none (m - length (map (unary_part kind xs option) (range_with_len a n)))
          rests false low = range_prefix (rest_part kind xs option) a n _ (λ i from to inside. rest_item option i (low i from to (omega (arith, inside, long))))

  lead_prefix : (g m : ℕ) → (1 ≤ m → g ≡ 0 → IsLow 0) → AreItems (take m (lead_items kind xs g))
  lead_prefix zero zero low = tt
  lead_prefix zero (suc m) low =
      let c = complement kind.bits (number_at kind.signed kind.bits (get_or xs 0 0)) in (
        (
          tt,
          complement_small kind.bits (number_at kind.signed kind.bits (get_or xs 0 0)),
          none_of bad_depth (kind.too_great ((c + negatives kind.signed kind.bits) % 2 ^ kind.bits))
              (ap kind.too_great (complement_back kind.signed kind.bits (get_or xs 0 0) (few 0)) ∙ low (omega arith) refl),
        ),
        prefix_none m,
      )
  lead_prefix (suc g) m low = prefix_none m

  module _ (o : ℕ → ℕ) (most : kind.bits ≤ 10) where
    gaggle_prefix : (g m : ℕ) → is_option kind.bits (o g) ≡ true → 16 * g < length xs →
        ((i : ℕ) → 16 * g ≤ i → i < length xs → i < 16 * g + 16 → numbers_through kind xs o i ≤ length (items_before kind xs o g) + m → IsLow i) →
        AreItems (take m (gaggle_items kind xs (o g) g))
    unfolding gaggle_items
    gaggle_prefix g zero valid within low = tt
    gaggle_prefix g (suc m) valid within low = (
      (tt, identifier_small kind.bits (o g) most valid, none_of bad_option (not (is_option kind.bits (o g))) (ap not valid)),
      prefix_both m (lead_items kind xs g) (value_items kind xs (o g) (places (length xs) g)) (lead_prefix g m first)
          (values_prefix (o g) (first_place g) size (m - length (lead_items kind xs g)) valid later),
    )
      where
        size : ℕ
        size = min (length xs) (16 * g + 16) - first_place g

        long : length (places (length xs) g) ≡ size
        long = length-range_with_len (first_place g) size

        first : 1 ≤ m → g ≡ 0 → IsLow 0
        first some z = low 0 (omega arith) (omega arith) (omega arith)
            (omega (
              arith,
              lead_long g z,
              ap (λ h. length (items_before kind xs o h) + 1 + length (lead_items kind xs h)) (sym z),
              some,
              ap (λ h. length (items_before kind xs o h)) z,
              ap (λ h. length (lead_items kind xs h)) z,
            ))
          where
            lead_long : (g : ℕ) → g ≡ 0 → length (lead_items kind xs g) ≡ 1
            lead_long zero e = refl
            lead_long (suc g) e = absurd (omega (arith, e))

        later : (i : ℕ) → first_place g ≤ i → i < first_place g + size → cond (eqb (o g) (uncoded kind.bits) || eqb (o g) 0) 0 size
            + (i - first_place g + 1) ≤ m - length (lead_items kind xs g) → IsLow i
        later i from to inside = low i (omega arith) (omega (arith, to)) (omega (arith, to)) (through_fits i from to inside)
          where
            through_fits : (i : ℕ) → first_place g ≤ i → i < first_place g + size → cond (eqb (o g) (uncoded kind.bits) || eqb (o g) 0) 0 size
                + (i - first_place g + 1) ≤ m - length (lead_items kind xs g) →
                numbers_through kind xs o i ≤ length (items_before kind xs o g) + suc m
            through_fits i from to inside =
                let at : i / 16 ≡ g = omega (arith, from, to) in
                let not_first : eqb i 0 ≡ false = grind (arith, nat_tests) in
                let whole : numbers_through kind xs o i ≡ length (items_before kind xs o g) + 1 + length (lead_items kind xs g)
                + cond (eqb (o g) (uncoded kind.bits) || eqb (o g) 0) 0 size + (i - first_place g + 1) =
                ap (λ t. cond t (length (items_before kind xs o (i / 16)) + 1 + length (lead_items kind xs (i / 16)))
                (length (items_before kind xs o (i / 16)) + 1 + length (lead_items kind xs (i / 16)) + cond
                (eqb (o (i / 16)) (uncoded kind.bits) || eqb (o (i / 16)) 0) 0 (length (places (length xs) (i / 16))) + (i - first_place (i / 16) + 1)))
                not_first
                ∙ ap (λ h. length (items_before kind xs o h) + 1 + length (lead_items kind xs h) + cond (eqb (o h) (uncoded kind.bits) || eqb (o h) 0) 0
                (length (places (length xs) h)) + (i - first_place h + 1)) at
                ∙ ap (λ c. length (items_before kind xs o g) + 1 + length (lead_items kind xs g) + cond (eqb (o g) (uncoded kind.bits) || eqb (o g) 0) 0 c +
                (i - first_place g + 1)) long in
                let some : 1 ≤ m - length (lead_items kind xs g) = omega (arith, inside) in
                omega (arith, whole, inside, some)

    before_prefix : (g m : ℕ) → ((h : ℕ) → h < g → is_option kind.bits (o h) ≡ true) → 16 * g < length xs + 16 →
        ((i : ℕ) → i < length xs → i < 16 * g → numbers_through kind xs o i ≤ m → IsLow i) → AreItems (take m (items_before kind xs o g))
    unfolding items_before
    before_prefix zero m valid within low = prefix_none m
    before_prefix (suc g) m valid within low =
        prefix_both m (items_before kind xs o g) (gaggle_items kind xs (o g) g) (before_prefix g m (λ h lt. valid h (omega arith)) (omega arith)
        (λ i inside lt le. low i inside (omega (arith, lt)) le))
        (rest (cases_lt (length (items_before kind xs o g)) m))
      where
        rest : (length (items_before kind xs o g) < m) ⊎ (m ≤ length (items_before kind xs o g)) →
            AreItems (take (m - length (items_before kind xs o g)) (gaggle_items kind xs (o g) g))
        rest (inl some) = gaggle_prefix g (m - length (items_before kind xs o g)) (valid g (omega arith)) (omega arith)
            (λ i from inside lt le. low i inside (omega (arith, lt)) (omega (arith, le, some)))
        rest (inr none) = subst (λ n. AreItems (take n (gaggle_items kind xs (o g) g))) (let z : 0 ≡ m - length (items_before kind xs o g) =
            omega arith in z) tt

    -- the first m items, if the numbers that they make whole are not too great
    pub numbers_prefix : (m : ℕ) → ((g : ℕ) → g < gaggle_count (length xs) → is_option kind.bits (o g) ≡ true) →
        ((i : ℕ) → i < length xs → numbers_through kind xs o i ≤ m → IsLow i) → AreItems (take m (number_items kind xs o))
    numbers_prefix m valid low = before_prefix (gaggle_count (length xs)) m valid (omega arith) (λ i inside lt le. low i inside le)

pub numbers_are : (kind : Kind) (xs : List ℕ) → ((i : ℕ) → get_or xs i 0 < 2 ^ kind.bits) →
    ((i : ℕ) → i < length xs → kind.too_great (get_or xs i 0) ≡ false) → (o : ℕ → ℕ) → kind.bits ≤ 10 →
    ((g : ℕ) → g < gaggle_count (length xs) → is_option kind.bits (o g) ≡ true) → AreItems (number_items kind xs o)
numbers_are kind xs few allowed o most valid =
    subst AreItems (take_all (length (number_items kind xs o)) (number_items kind xs o) (omega arith))
    (numbers_prefix kind xs few o most (length (number_items kind xs o)) valid (λ i inside le. allowed i inside))

-- ---- the DC part

bit_item : (b : ℕ) (dc : ℤ) → IsItem (dc_bit b dc)
bit_item b dc = (tt, complement_small 1 (int_shr dc b), refl)

planes_are : (q : ℕ) (dcs : List ℤ) (n : ℕ) → AreItems (planes_before q dcs n)
unfolding planes_before
planes_are q dcs zero = tt
planes_are q dcs (suc n) = are_append (planes_before q dcs n) _ (planes_are q dcs n) (each_item (dc_bit (q - suc n)) (bit_item (q - suc n)) dcs)

pub dcs_are : (depth_dc depth_ac shift : ℕ) (dcs : List ℤ) (o : ℕ → ℕ) → DcsFit depth_dc depth_ac shift dcs →
    (2 ≤ dc_bits depth_dc depth_ac shift → (g : ℕ) → g < gaggle_count (length dcs) → is_option (dc_bits depth_dc depth_ac shift) (o g) ≡ true) →
    AreItems (dc_items depth_dc depth_ac shift dcs o)
unfolding dc_items
dcs_are depth_dc depth_ac shift dcs o fit valid =
    are_append (high_items N q dcs o) _ (by_bits (eqb N 1) refl) (planes_are q dcs (dc_planes depth_dc depth_ac shift))
  where
    N : ℕ
    N = dc_bits depth_dc depth_ac shift

    q : ℕ
    q = dc_q depth_dc depth_ac shift

    more : (n : ℕ) → eqb (max n 1) 1 ≡ false → 2 ≤ max n 1
    more n e = grind (arith, nat_tests)

    by_bits : (b : Bool) → eqb N 1 ≡ b → AreItems (cond b (map (dc_bit q) dcs) (number_items (dc_kind N) (map (shifted_height true N q) dcs) o))
    by_bits true e = each_item (dc_bit q) (bit_item q) dcs
    by_bits false e =
        numbers_are (dc_kind N) (map (shifted_height true N q) dcs) (few_anywhere N (map (shifted_height true N q) dcs) (heights_few N q dcs fit))
        (λ i lt. refl) o (few_bits depth_dc depth_ac shift)
        (λ g lt. valid (more (depth_dc - q) e) g (subst (λ n. g < gaggle_count n) (length-map dcs (shifted_height true N q)) lt))

-- ---- block depths

raw_prefix : (xs : List ℕ) (m : ℕ) → ((i : ℕ) → i < length xs → i + 1 ≤ m → get_or xs i 0 ≤ 1) → AreItems (take m (map raw xs))
raw_prefix [] m low = prefix_none m
raw_prefix (x ∷ xs) zero low = tt
raw_prefix (x ∷ xs) (suc m) low = (
  (tt, (let h : x < 2 ^ 1 = omega (arith, low 0 (omega arith) (omega arith)) in h), refl),
  raw_prefix xs m (λ i lt le. low (suc i) (omega arith) (omega arith)),
)

-- the first m items of block depths, if the depths that they make whole are not above the head's
pub depths_prefix : (depth_ac : ℕ) (xs : List ℕ) (o : ℕ → ℕ) (m : ℕ) → depth_bits depth_ac ≤ 10 → AreFew (depth_bits depth_ac) xs →
    ((i : ℕ) → i < length xs → cond (eqb depth_ac 0) 0 (cond (eqb depth_ac 1) (i + 1) (numbers_through (depth_kind depth_ac) xs o i)) ≤ m →
    get_or xs i 0 ≤ depth_ac) →
    (2 ≤ depth_ac → (g : ℕ) → g < gaggle_count (length xs) → is_option (depth_bits depth_ac) (o g) ≡ true) → AreItems (take m (depth_items depth_ac xs o))
unfolding depth_items
depths_prefix depth_ac xs o m most few low valid = by_depth (eqb depth_ac 0) (eqb depth_ac 1) refl refl low
  where
    by_depth : (none one : Bool) → eqb depth_ac 0 ≡ none → eqb depth_ac 1 ≡ one →
        ((i : ℕ) → i < length xs → cond none 0 (cond one (i + 1) (numbers_through (depth_kind depth_ac) xs o i)) ≤ m → get_or xs i 0 ≤ depth_ac) →
        AreItems (take m (cond none [] (cond one (map raw xs) (number_items (depth_kind depth_ac) xs o))))
    by_depth true one e f low = prefix_none m
    by_depth false true e f low = let z : depth_ac ≡ 1 = grind (arith, nat_tests) in raw_prefix xs m (λ i lt le. omega (arith, low i lt le, z))
    by_depth false false e f low =
        let two : 2 ≤ depth_ac = grind (arith, nat_tests) in
        numbers_prefix (depth_kind depth_ac) xs (few_anywhere (depth_bits depth_ac) xs few) o most m (valid two)
        (λ i lt le. le-ltb depth_ac (get_or xs i 0) (low i lt le))

pub depths_are : (depth_ac : ℕ) (xs : List ℕ) (o : ℕ → ℕ) → depth_bits depth_ac ≤ 10 → AreFew (depth_bits depth_ac) xs →
    ((i : ℕ) → i < length xs → get_or xs i 0 ≤ depth_ac) →
    (2 ≤ depth_ac → (g : ℕ) → g < gaggle_count (length xs) → is_option (depth_bits depth_ac) (o g) ≡ true) → AreItems (depth_items depth_ac xs o)
depths_are depth_ac xs o most few low valid =
    subst AreItems (take_all (length (depth_items depth_ac xs o)) (depth_items depth_ac xs o) (omega arith))
    (depths_prefix depth_ac xs o (length (depth_items depth_ac xs o)) most few (λ i lt le. low i lt) valid)
