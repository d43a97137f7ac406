-- The items of two lists of numbers step alike.
use Rattle.std.proofs.Common.{◌≡◌, ℕ, zero, suc, ◌+◌, ◌*◌, ◌-◌, ◌/◌, ◌%◌, ◌^◌, ◌<◌, ◌≤◌, min, List, [], ◌∷◌, ◌++◌, length, map, get_or, Bool, true, false}
use Rattle.std.proofs.Common.{eqb, cond, refl, sym, ap, subst, ◌∙◌, arith, inl, inr}
use Rattle.std.specs.List.{range_with_len}
use Rattle.std.proofs.lemmas.List.{get_or_past}
use Rattle.std.proofs.lemmas.Bool.{cases_lt}
use Rattle.std.proofs.lemmas.Bool.Decides.{nat_tests}
use Rattle.std.proofs.lemmas.Nat.{shr_split}
use Rattle.item_defs.specs.Items.{Item}
use Rattle.item_defs.specs.Readings.{StepsAlike}
use Rattle.item_defs.specs.Laws.{said_of}
use Rattle.item_defs.proofs.ReadingLaws.{steps_append, said_split}
use Rattle.number_defs.specs.Ranges.{negatives, number_at}
use Rattle.item_defs.specs.TwosComplement.{complement}
use Rattle.number_defs.specs.Mapping.{unmapped}
use Rattle.number_defs.specs.Gaggles.{Kind, uncoded, value_at, first_place, places, uncoded_form, unary_form, rest_form, uncoded_value, unary_part}
use Rattle.number_defs.specs.Gaggles.{rest_part, value_items, lead_items, gaggle_items, items_before, gaggle_count, number_items}
use Rattle.number_defs.proofs.MappingLaws.{mapped_back}
use Rattle.number_defs.proofs.Heights.{complement_back}

-- Items at the places from low on, below high: the form of each is determined by the number before, and what
-- it says determines the next number.
module _ (xs ys : List ℕ) (f h : ℕ → Item) (low high : ℕ)
    (forms : (i : ℕ) → low ≤ i → i < high → get_or xs (i - 1) 0 ≡ get_or ys (i - 1) 0 → (f i).form ≡ (h i).form)
    (gives : (i : ℕ) → low ≤ i → i < high → get_or xs (i - 1) 0 ≡ get_or ys (i - 1) 0 → (f i).said ≡ (h i).said → get_or xs i 0 ≡ get_or ys i 0) where
  next : (a : ℕ) → get_or xs a 0 ≡ get_or ys a 0 → get_or xs (a + 1 - 1) 0 ≡ get_or ys (a + 1 - 1) 0
  next a s = let e : a + 1 - 1 ≡ a = omega arith in rw e s

  chain_steps : (a n : ℕ) → low ≤ a → a + n ≤ high → get_or xs (a - 1) 0 ≡ get_or ys (a - 1) 0 →
      StepsAlike (map f (range_with_len a n)) (map h (range_with_len a n))
  chain_steps a zero le fits s = tt
  chain_steps a (suc n) le fits s =
      (forms a le (omega arith) s, λ e. chain_steps (a + 1) n (omega arith) (omega arith) (next a (gives a le (omega arith) s e)))

  chain_same : (a n : ℕ) → low ≤ a → a + n ≤ high → get_or xs (a - 1) 0 ≡ get_or ys (a - 1) 0 →
      said_of (map f (range_with_len a n)) ≡ said_of (map h (range_with_len a n)) → (i : ℕ) → a ≤ i → i < a + n → get_or xs i 0 ≡ get_or ys i 0
  chain_same a zero le fits s e i from to = absurd (omega arith)
  chain_same a (suc n) le fits s e i from to =
      let first : (f a).said ≡ (h a).said = cc in
      let others : said_of (map f (range_with_len (a + 1) n)) ≡ said_of (map h (range_with_len (a + 1) n)) = cc in
      let here : get_or xs a 0 ≡ get_or ys a 0 = gives a le (omega arith) s first in
      elim (eqb i a) as (λ t. eqb i a ≡ t → get_or xs i 0 ≡ get_or ys i 0) [
        | true ↦ λ q. let same : i ≡ a = grind (arith, nat_tests) in rw same here
        | false ↦ λ q. let past : a + 1 ≤ i = grind (arith, nat_tests) in chain_same (a + 1) n (omega arith) (omega arith) (next a here) others i past
            (omega arith)
      ] refl

-- the items at each place of one form, and what they say
each_steps : (f h : ℕ → Item) → ((i : ℕ) → (f i).form ≡ (h i).form) → (at : List ℕ) → StepsAlike (map f at) (map h at)
each_steps f h same [] = tt
each_steps f h same (a ∷ at) = (same a, λ s. each_steps f h same at)

each_said : (f h : ℕ → Item) (a n : ℕ) → said_of (map f (range_with_len a n)) ≡ said_of (map h (range_with_len a n)) → (i : ℕ) → a ≤ i → i < a + n →
    (f i).said ≡ (h i).said
each_said f h a zero e i from to = absurd (omega arith)
each_said f h a (suc n) e i from to =
    let first : (f a).said ≡ (h a).said = cc in
    let others : said_of (map f (range_with_len (a + 1) n)) ≡ said_of (map h (range_with_len (a + 1) n)) = cc in
    elim (eqb i a) as (λ t. eqb i a ≡ t → (f i).said ≡ (h i).said) [
      | true ↦ λ q. let same : i ≡ a = grind (arith, nat_tests) in rw same first
      | false ↦ λ q. let past : a + 1 ≤ i = grind (arith, nat_tests) in each_said f h (a + 1) n others i past (omega arith)
    ] refl

module _ (kind : Kind) (xs ys : List ℕ) (p : (i : ℕ) → get_or xs i 0 < 2 ^ kind.bits) (q : (i : ℕ) → get_or ys i 0 < 2 ^ kind.bits) where
  -- a mapped value determines its number
  pub same_number : (i : ℕ) → get_or xs (i - 1) 0 ≡ get_or ys (i - 1) 0 → value_at kind.bits xs i ≡ value_at kind.bits ys i → get_or xs i 0 ≡ get_or ys i 0
  same_number i s e =
      sym (mapped_back kind.bits (get_or xs (i - 1) 0) (get_or xs i 0) (p (i - 1)) (p i))
      ∙ ap (λ v. unmapped kind.bits (get_or xs (i - 1) 0) v) e
      ∙ ap (λ b. unmapped kind.bits b (value_at kind.bits ys i)) s
      ∙ mapped_back kind.bits (get_or ys (i - 1) 0) (get_or ys i 0) (q (i - 1)) (q i)

  pub split_value : (k v w : ℕ) → v / 2 ^ k ≡ w / 2 ^ k → v % 2 ^ k ≡ w % 2 ^ k → v ≡ w
  split_value k v w d r = sym (shr_split v k) ∙ ap (λ n. n * 2 ^ k + v % 2 ^ k) d ∙ ap (λ n. w / 2 ^ k * 2 ^ k + n) r ∙ shr_split w k

  -- values as they are, and unary parts by themselves
  module _ (a n : ℕ) (s : get_or xs (a - 1) 0 ≡ get_or ys (a - 1) 0) where
    uncoded_alike : (i : ℕ) → get_or xs (i - 1) 0 ≡ get_or ys (i - 1) 0 → (uncoded_value kind xs i).form ≡ (uncoded_value kind ys i).form
    uncoded_alike i t = ap (uncoded_form kind) t

    uncoded_steps : StepsAlike (map (uncoded_value kind xs) (range_with_len a n)) (map (uncoded_value kind ys) (range_with_len a n))
    uncoded_steps = chain_steps xs ys (uncoded_value kind xs) (uncoded_value kind ys) a (a + n) (λ i from to t. uncoded_alike i t)
        (λ i from to t e. same_number i t e) a n (omega arith) (omega arith) s

    uncoded_same : said_of (map (uncoded_value kind xs) (range_with_len a n)) ≡ said_of (map (uncoded_value kind ys) (range_with_len a n)) → (i : ℕ) →
        a ≤ i → i < a + n → get_or xs i 0 ≡ get_or ys i 0
    uncoded_same = chain_same xs ys (uncoded_value kind xs) (uncoded_value kind ys) a (a + n) (λ i from to t. uncoded_alike i t)
        (λ i from to t e. same_number i t e) a n (omega arith) (omega arith) s

    whole_form : (i : ℕ) → get_or xs (i - 1) 0 ≡ get_or ys (i - 1) 0 → (unary_part kind xs 0 i).form ≡ (unary_part kind ys 0 i).form
    whole_form i t = ap (unary_form kind 0) t

    whole_number : (i : ℕ) → get_or xs (i - 1) 0 ≡ get_or ys (i - 1) 0 → value_at kind.bits xs i / 2 ^ 0 ≡ value_at kind.bits ys i / 2 ^ 0 →
        get_or xs i 0 ≡ get_or ys i 0
    whole_number i t e = same_number i t (omega arith)

    whole_steps : StepsAlike (map (unary_part kind xs 0) (range_with_len a n)) (map (unary_part kind ys 0) (range_with_len a n))
    whole_steps = chain_steps xs ys (unary_part kind xs 0) (unary_part kind ys 0) a (a + n) (λ i from to t. whole_form i t)
        (λ i from to t e. whole_number i t e) a n (omega arith) (omega arith) s

    whole_same : said_of (map (unary_part kind xs 0) (range_with_len a n)) ≡ said_of (map (unary_part kind ys 0) (range_with_len a n)) → (i : ℕ) → a ≤ i →
        i < a + n → get_or xs i 0 ≡ get_or ys i 0
    whole_same = chain_same xs ys (unary_part kind xs 0) (unary_part kind ys 0) a (a + n) (λ i from to t. whole_form i t)
        (λ i from to t e. whole_number i t e) a n (omega arith) (omega arith) s

    -- all unary parts, then all rests
    unary_alike : (k i : ℕ) → eqb k 0 ≡ false → (unary_part kind xs k i).form ≡ (unary_part kind ys k i).form
    unary_alike k i e = grind (arith, nat_tests)

    unary_steps : (k : ℕ) → eqb k 0 ≡ false → StepsAlike (map (unary_part kind xs k) (range_with_len a n)) (map (unary_part kind ys k) (range_with_len a n))
    unary_steps k e = each_steps (unary_part kind xs k) (unary_part kind ys k) (λ i. unary_alike k i e) (range_with_len a n)

    module _ (k : ℕ) (highs : said_of (map (unary_part kind xs k) (range_with_len a n)) ≡ said_of (map (unary_part kind ys k) (range_with_len a n))) where
      high_same : (i : ℕ) → a ≤ i → i < a + n → value_at kind.bits xs i / 2 ^ k ≡ value_at kind.bits ys i / 2 ^ k
      high_same = each_said (unary_part kind xs k) (unary_part kind ys k) a n highs

      rest_alike : (i : ℕ) → a ≤ i → i < a + n → get_or xs (i - 1) 0 ≡ get_or ys (i - 1) 0 → (rest_part kind xs k i).form ≡ (rest_part kind ys k i).form
      rest_alike i from to t = ap (λ b. rest_form kind k b (value_at kind.bits xs i / 2 ^ k)) t ∙ ap (rest_form kind k (get_or ys (i - 1) 0))
          (high_same i from to)

      rest_number : (i : ℕ) → a ≤ i → i < a + n → get_or xs (i - 1) 0 ≡ get_or ys (i - 1) 0 →
          value_at kind.bits xs i % 2 ^ k ≡ value_at kind.bits ys i % 2 ^ k → get_or xs i 0 ≡ get_or ys i 0
      rest_number i from to t e = same_number i t (split_value k _ _ (high_same i from to) e)

      rest_steps : StepsAlike (map (rest_part kind xs k) (range_with_len a n)) (map (rest_part kind ys k) (range_with_len a n))
      rest_steps = chain_steps xs ys (rest_part kind xs k) (rest_part kind ys k) a (a + n) rest_alike rest_number a n (omega arith) (omega arith) s

      rest_same : said_of (map (rest_part kind xs k) (range_with_len a n)) ≡ said_of (map (rest_part kind ys k) (range_with_len a n)) → (i : ℕ) → a ≤ i →
          i < a + n → get_or xs i 0 ≡ get_or ys i 0
      rest_same = chain_same xs ys (rest_part kind xs k) (rest_part kind ys k) a (a + n) rest_alike rest_number a n (omega arith) (omega arith) s

    -- values under an option that both use
    value_steps : (option : ℕ) → StepsAlike (value_items kind xs option (range_with_len a n)) (value_items kind ys option (range_with_len a n))
    unfolding value_items
    value_steps option =
        elim (eqb option (uncoded kind.bits)) as (λ t. StepsAlike
        (cond t (map (uncoded_value kind xs) (range_with_len a n)) (map (unary_part kind xs option) (range_with_len a n) ++ cond (eqb option 0) []
        (map (rest_part kind xs option) (range_with_len a n))))
        (cond t (map (uncoded_value kind ys) (range_with_len a n)) (map (unary_part kind ys option) (range_with_len a n) ++ cond (eqb option 0) []
        (map (rest_part kind ys option) (range_with_len a n))))) [
          | true ↦ uncoded_steps
          | false ↦ split_steps (eqb option 0) refl
        ]
      where
        split_steps : (t : Bool) → eqb option 0 ≡ t → StepsAlike (map (unary_part kind xs option) (range_with_len a n) ++ cond t []
            (map (rest_part kind xs option) (range_with_len a n)))
            (map (unary_part kind ys option) (range_with_len a n) ++ cond t [] (map (rest_part kind ys option) (range_with_len a n)))
        split_steps true e =
            let z : option ≡ 0 = grind (arith, nat_tests) in
            rw z (steps_append (map (unary_part kind xs 0) (range_with_len a n)) (map (unary_part kind ys 0) (range_with_len a n)) [] [] whole_steps (λ u. tt))
        split_steps false e = steps_append (map (unary_part kind xs option) (range_with_len a n)) (map (unary_part kind ys option) (range_with_len a n)) _ _
            (unary_steps option e) (λ u. rest_steps option u)

    value_same : (option : ℕ) → said_of (value_items kind xs option (range_with_len a n)) ≡ said_of (value_items kind ys option (range_with_len a n)) →
        (i : ℕ) → a ≤ i → i < a + n → get_or xs i 0 ≡ get_or ys i 0
    unfolding value_items
    value_same option =
        elim (eqb option (uncoded kind.bits)) as (λ t. said_of
        (cond t (map (uncoded_value kind xs) (range_with_len a n)) (map (unary_part kind xs option) (range_with_len a n) ++ cond (eqb option 0) []
        (map (rest_part kind xs option) (range_with_len a n))))
        ≡ said_of (cond t (map (uncoded_value kind ys) (range_with_len a n)) (map (unary_part kind ys option) (range_with_len a n) ++ cond (eqb option 0) []
        (map (rest_part kind ys option) (range_with_len a n)))) → (i : ℕ) → a ≤ i → i < a + n → get_or xs i 0 ≡ get_or ys i 0) [
          | true ↦ uncoded_same
          | false ↦ split_same (eqb option 0) refl
        ]
      where
        split_same : (t : Bool) → eqb option 0 ≡ t → said_of (map (unary_part kind xs option) (range_with_len a n) ++ cond t []
            (map (rest_part kind xs option) (range_with_len a n)))
            ≡ said_of (map (unary_part kind ys option) (range_with_len a n) ++ cond t [] (map (rest_part kind ys option) (range_with_len a n))) → (i : ℕ) →
            a ≤ i → i < a + n → get_or xs i 0 ≡ get_or ys i 0
        split_same true e said =
            let z : option ≡ 0 = grind (arith, nat_tests) in
            whole_same (rw z at (said_split (map (unary_part kind xs option) (range_with_len a n)) (map (unary_part kind ys option) (range_with_len a n)) []
            [] (rw z whole_steps) said).0)
        split_same false e said =
            let r = said_split (map (unary_part kind xs option) (range_with_len a n)) (map (unary_part kind ys option) (range_with_len a n))
            (map (rest_part kind xs option) (range_with_len a n)) (map (rest_part kind ys option) (range_with_len a n)) (unary_steps option e) said in
            rest_same option r.0 r.1

  pub lead_steps : (g : ℕ) → StepsAlike (lead_items kind xs g) (lead_items kind ys g)
  lead_steps zero = (refl, λ s. tt)
  lead_steps (suc g) = tt

  -- the reference, or the numbers before, determine the number before a gaggle's first mapped value
  pub lead_same : (g : ℕ) → ((i : ℕ) → i < 16 * g → get_or xs i 0 ≡ get_or ys i 0) → said_of (lead_items kind xs g) ≡ said_of (lead_items kind ys g) →
      get_or xs (first_place g - 1) 0 ≡ get_or ys (first_place g - 1) 0
  lead_same zero known e =
      let said : complement kind.bits (number_at kind.signed kind.bits (get_or xs 0 0)) ≡ complement kind.bits
      (number_at kind.signed kind.bits (get_or ys 0 0)) = cc in
      let at : first_place 0 - 1 ≡ 0 = omega arith in
      rw at (sym (complement_back kind.signed kind.bits (get_or xs 0 0) (p 0)) ∙ ap (λ c. (c + negatives kind.signed kind.bits) % 2 ^ kind.bits) said ∙
      complement_back kind.signed kind.bits (get_or ys 0 0) (q 0))
  lead_same (suc g) known e = known (first_place (suc g) - 1) (omega arith)

  module _ (same_length : length xs ≡ length ys) where
    same_places : (g : ℕ) → places (length ys) g ≡ places (length xs) g
    same_places g = rw same_length refl

    gaggle_steps : (o u g : ℕ) → ((i : ℕ) → i < 16 * g → get_or xs i 0 ≡ get_or ys i 0) → StepsAlike (gaggle_items kind xs o g) (gaggle_items kind ys u g)
    unfolding gaggle_items
    gaggle_steps o u g known = (
      refl,
      λ s. steps_append (lead_items kind xs g) (lead_items kind ys g) _ _ (lead_steps g) (λ t.
          rw (← s, same_places g) (value_steps (first_place g) (min (length xs) (16 * g + 16) - first_place g) (lead_same g known t) o)),
    )

    -- past the end there is no number in either
    none_past : (i : ℕ) → length xs ≤ i → get_or xs i 0 ≡ get_or ys i 0
    none_past i past = get_or_past xs i 0 past ∙ sym (get_or_past ys i 0 (omega arith))

    by_place : (i g : ℕ) → i < 16 * (g + 1) → ((j : ℕ) → j < 16 * g → get_or xs j 0 ≡ get_or ys j 0) →
        get_or xs (first_place g - 1) 0 ≡ get_or ys (first_place g - 1) 0 →
        (first_place g ≤ i → i < length xs → get_or xs i 0 ≡ get_or ys i 0) → get_or xs i 0 ≡ get_or ys i 0
    by_place i g below known before values = grind (arith, nat_tests, none_past)

    gaggle_same : (o u g : ℕ) → ((i : ℕ) → i < 16 * g → get_or xs i 0 ≡ get_or ys i 0) → said_of (gaggle_items kind xs o g)
        ≡ said_of (gaggle_items kind ys u g) →
        (i : ℕ) → i < 16 * (g + 1) → get_or xs i 0 ≡ get_or ys i 0
    unfolding gaggle_items
    gaggle_same o u g known e i below =
        let option : o ≡ u = cc in
        let others : said_of (lead_items kind xs g ++ value_items kind xs o (places (length xs) g))
        ≡ said_of (lead_items kind ys g ++ value_items kind ys u (places (length ys) g)) = cc in
        let parts = said_split (lead_items kind xs g) (lead_items kind ys g) (value_items kind xs o (places (length xs) g))
        (value_items kind ys u (places (length ys) g)) (lead_steps g) others in
        let before = lead_same g known parts.0 in
        let values = rw (← option, same_places g) at parts.1 in
        by_place i g below known before (λ from within. value_same (first_place g) (min (length xs) (16 * g + 16) - first_place g) before o values i from
        (omega arith))

    module _ (o u : ℕ → ℕ) where
      pub before_both : (g : ℕ) → StepsAlike (items_before kind xs o g) (items_before kind ys u g)
          × (said_of (items_before kind xs o g) ≡ said_of (items_before kind ys u g) → (i : ℕ) → i < 16 * g → get_or xs i 0 ≡ get_or ys i 0)
      unfolding items_before
      before_both zero = (tt, λ e i lt. absurd (omega arith))
      before_both (suc g) =
          let steps = (before_both g).0 in
          let same = (before_both g).1 in (
            steps_append (items_before kind xs o g) (items_before kind ys u g) _ _ steps (λ s. gaggle_steps (o g) (u g) g (same s)),
            λ e i lt.
                let parts = said_split (items_before kind xs o g) (items_before kind ys u g) (gaggle_items kind xs (o g) g) (gaggle_items kind ys (u g) g)
                steps e in
                gaggle_same (o g) (u g) g (same parts.0) parts.1 i (omega arith),
          )

      -- lists that say the same have the same numbers
      pub numbers_same : said_of (number_items kind xs o) ≡ said_of (number_items kind ys u) → (i : ℕ) → get_or xs i 0 ≡ get_or ys i 0
      numbers_same e i =
          elim (cases_lt i (length xs)) [
            | inl within ↦
                let said : said_of (items_before kind xs o (gaggle_count (length xs))) ≡ said_of (items_before kind ys u (gaggle_count (length xs))) =
                subst (λ n. said_of (items_before kind xs o (gaggle_count (length xs))) ≡ said_of (items_before kind ys u (gaggle_count n)))
                (sym same_length) e in
                (before_both (gaggle_count (length xs))).1 said i (omega arith)
            | inr past ↦ none_past i past
          ]
