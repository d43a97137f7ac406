-- The options of one gaggle after another.
use Rattle.std.proofs.Common.{◌≡◌, ◌⊎◌, inl, inr, ℕ, suc, ◌+◌, ◌*◌, ◌^◌, ◌<◌, ◌≤◌, ℤ, false, List, [], ◌∷◌, ◌++◌, length, refl, ap, sym, ◌∙◌, subst, arith}
use Rattle.std.proofs.Common.{map, zero, ◌/◌, ◌%◌, count_by}
use Rattle.std.specs.Int.{div_ceil}
use Rattle.std.proofs.lemmas.List.{append-nil}
use Rattle.std.proofs.lemmas.Bool.Decides.{nat_tests}
use Rattle.base_122.specs.declared.book.Book.{Book}
use Rattle.plane_defs.specs.declared.entries.Entry.{Entry}
use Rattle.plane_defs.specs.Choice.{cheapest, has_symbol, symbol_counts}
use Rattle.plane_defs.specs.declared.stages.Stage.TheVariants.{Parents, Children, Grandchildren}
use Rattle.plane_defs.specs.Planes.{Plane, of_gaggle, counted, chosen}
use Rattle.plane_defs.specs.Spans.{span}
use Rattle.plane_defs.proofs.Cheapest.{cheapest_is}
use Rattle.plane_coder.specs.declared.costs.Costs.{Costs}
use Rattle.block_masks.specs.Gaggles.{first_mark, AreOptions, options_in, sent_in}
use Rattle.block_masks.specs.Stored.{Stores}
use Rattle.plane_coder.specs.Costs.{bits_under, AreCosts, cheapest_for}
use Rattle.plane_coder.specs.declared.collect.GaggleWords.{GaggleWords}
use Rattle.plane_coder.specs.Listed.{listed}
use Rattle.plane_coder.specs.Collected.{HasWords}
use Rattle.plane_coder.proofs.Costing.{count_by-append}
use Rattle.plane_coder.proofs.Alike.{count_alike}
use Rattle.plane_coder.specs.Chosen.{HasOptions, ChoosesFirst, Chooses}
use Rattle.plane_defs.proofs.Equations.{span-none, span-more}

-- ---- the cheapest options

same_counts : (xs ys : List Entry) (n : ℕ) → ((s : ℕ) → count_by (has_symbol n s) xs ≡ count_by (has_symbol n s) ys) → symbol_counts n xs ≡ symbol_counts n ys
same_counts xs ys n same = λ i. map (λ s. same s i) (span 0 16)

-- the field of the option that is the least of the fields is that of the cheapest
pub cheapest_field : (book : Book) (n : ℕ) (entries : List Entry) (field : ℕ → ℕ) (best : ℕ) →
    ((option : ℕ) → option < n → field option ≡ bits_under book n option entries) →
    best < n → ((other : ℕ) → other < n → field best ≤ field other) → ((other : ℕ) → other < best → field best < field other) →
    best ≡ cheapest book n (symbol_counts n entries)
cheapest_field book n entries field best is known fewest least = cheapest_is book n (symbol_counts n entries) best known
    (λ other lt. omega (arith, is best known, is other lt, fewest other lt))
    (λ other lt. omega (arith, is best known, is other (omega (arith, lt, known)), least other lt))

module _ (book : Book) (c : Costs) (entries : List Entry) (costs : AreCosts book c entries) where
  few : (n option : ℕ) → 2 ≤ n → n ≤ 4 → option < n → bits_under book n option entries ≤ 4095
  few n option low high known = costs.few.each n option low high known

  few_two : (option : ℕ) → option < 2 → bits_under book 2 option entries ≤ 4095
  few_two option known = few 2 option (omega arith) (omega arith) known

  few_three : (option : ℕ) → option < 3 → bits_under book 3 option entries ≤ 4095
  few_three option known = few 3 option (omega arith) (omega arith) known

  few_four : (option : ℕ) → option < 4 → bits_under book 4 option entries ≤ 4095
  few_four option known = few 4 option (omega arith) (omega arith) known

  two_first : c.short / 1 % 4096 ≡ bits_under book 2 0 entries
  two_first = omega (arith, costs.short, few_two 0 (omega arith))

  two_second : c.short / 4096 % 4096 ≡ bits_under book 2 1 entries
  two_second = omega (arith, costs.short, few_two 0 (omega arith), few_two 1 (omega arith))

  three_first : c.short / 16777216 % 4096 ≡ bits_under book 3 0 entries
  three_first = omega (arith, costs.short, few_two 0 (omega arith), few_two 1 (omega arith), few_three 0 (omega arith))

  three_second : c.short / 68719476736 % 4096 ≡ bits_under book 3 1 entries
  three_second =
      omega (arith, costs.short, few_two 0 (omega arith), few_two 1 (omega arith), few_three 0 (omega arith), few_three 1 (omega arith))

  three_third : c.short / 281474976710656 % 4096 ≡ bits_under book 3 2 entries
  three_third = omega (
    arith,
    costs.short,
    few_two 0 (omega arith),
    few_two 1 (omega arith),
    few_three 0 (omega arith),
    few_three 1 (omega arith),
    few_three 2 (omega arith),
  )

  four_first : c.long / 1 % 4096 ≡ bits_under book 4 0 entries
  four_first = omega (arith, costs.long, few_four 0 (omega arith))

  four_second : c.long / 4096 % 4096 ≡ bits_under book 4 1 entries
  four_second = omega (arith, costs.long, few_four 0 (omega arith), few_four 1 (omega arith))

  four_third : c.long / 16777216 % 4096 ≡ bits_under book 4 2 entries
  four_third = omega (arith, costs.long, few_four 0 (omega arith), few_four 1 (omega arith), few_four 2 (omega arith))

  four_fourth : c.long / 68719476736 % 4096 ≡ bits_under book 4 3 entries
  four_fourth =
      omega (arith, costs.long, few_four 0 (omega arith), few_four 1 (omega arith), few_four 2 (omega arith), few_four 3 (omega arith))

  fields_of_two : (option : ℕ) → option < 2 → c.short / 2 ^ (12 * (0 + option)) % 2 ^ 12 ≡ bits_under book 2 option entries
  fields_of_two zero lt = two_first
  fields_of_two (suc zero) lt = two_second
  fields_of_two (suc (suc option)) lt = absurd (omega arith)

  fields_of_three : (option : ℕ) → option < 3 → c.short / 2 ^ (12 * (2 + option)) % 2 ^ 12 ≡ bits_under book 3 option entries
  fields_of_three zero lt = three_first
  fields_of_three (suc zero) lt = three_second
  fields_of_three (suc (suc zero)) lt = three_third
  fields_of_three (suc (suc (suc option))) lt = absurd (omega arith)

  fields_of_four : (option : ℕ) → option < 4 → c.long / 2 ^ (12 * (0 + option)) % 2 ^ 12 ≡ bits_under book 4 option entries
  fields_of_four zero lt = four_first
  fields_of_four (suc zero) lt = four_second
  fields_of_four (suc (suc zero)) lt = four_third
  fields_of_four (suc (suc (suc zero))) lt = four_fourth
  fields_of_four (suc (suc (suc (suc option)))) lt = absurd (omega arith)

  pub best_of_two : (best : ℕ) → best < 2 → ((other : ℕ) → other < 2 → c.short / 2 ^ (12 * (0 + best)) % 2 ^ 12 ≤ c.short / 2 ^ (12 * (0 + other)) % 2 ^ 12) →
      ((other : ℕ) → other < best → c.short / 2 ^ (12 * (0 + best)) % 2 ^ 12 < c.short / 2 ^ (12 * (0 + other)) % 2 ^ 12) →
      best ≡ cheapest book 2 (symbol_counts 2 entries)
  best_of_two best = cheapest_field book 2 entries (λ option. c.short / 2 ^ (12 * (0 + option)) % 2 ^ 12) best fields_of_two

  pub best_of_three : (best : ℕ) → best < 3 → ((other : ℕ) → other < 3 → c.short / 2 ^ (12 * (2 + best)) % 2 ^ 12 ≤ c.short / 2 ^ (12 * (2 + other)) % 2 ^ 12) →
      ((other : ℕ) → other < best → c.short / 2 ^ (12 * (2 + best)) % 2 ^ 12 < c.short / 2 ^ (12 * (2 + other)) % 2 ^ 12) →
      best ≡ cheapest book 3 (symbol_counts 3 entries)
  best_of_three best = cheapest_field book 3 entries (λ option. c.short / 2 ^ (12 * (2 + option)) % 2 ^ 12) best fields_of_three

  pub best_of_four : (best : ℕ) → best < 4 → ((other : ℕ) → other < 4 → c.long / 2 ^ (12 * (0 + best)) % 2 ^ 12 ≤ c.long / 2 ^ (12 * (0 + other)) % 2 ^ 12) →
      ((other : ℕ) → other < best → c.long / 2 ^ (12 * (0 + best)) % 2 ^ 12 < c.long / 2 ^ (12 * (0 + other)) % 2 ^ 12) →
      best ≡ cheapest book 4 (symbol_counts 4 entries)
  best_of_four best = cheapest_field book 4 entries (λ option. c.long / 2 ^ (12 * (0 + option)) % 2 ^ 12) best fields_of_four

-- ---- the words of a gaggle

-- those of its three stages are counted
counted_is : (p : Plane) (g : ℕ) → of_gaggle p Parents g ++ (of_gaggle p Children g ++ of_gaggle p Grandchildren g) ≡ counted p g
counted_is p g = grind (arith, nat_tests, append-nil, span-none, span-more)

module _ (p : Plane) (g : ℕ) (words : GaggleWords) (has : HasWords 0 (λ stage. of_gaggle p stage g) words) where
  abbrev found : List Entry
  found = listed words.parents ++ (listed words.children ++ listed words.grandchildren)

  abbrev sent : List Entry
  sent = of_gaggle p Parents g ++ (of_gaggle p Children g ++ of_gaggle p Grandchildren g)

  same_at : (n : ℕ) → 2 ≤ n → (s : ℕ) → count_by (has_symbol n s) found ≡ count_by (has_symbol n s) sent
  same_at n low s =
      let h = has_symbol n s in
      let x = of_gaggle p Parents g in
      let y = of_gaggle p Children g in
      let z = of_gaggle p Grandchildren g in
      omega (
        arith,
        count_by-append h (listed words.parents) (listed words.children ++ listed words.grandchildren),
        count_by-append h (listed words.children) (listed words.grandchildren),
        count_by-append h x (y ++ z),
        count_by-append h y z,
        count_alike n s (listed words.parents) x low (has.parents refl),
        count_alike n s (listed words.children) y low (has.children refl),
        count_alike n s (listed words.grandchildren) z low (has.grandchildren refl),
      )

  counts_of : (n : ℕ) → 2 ≤ n → symbol_counts n found ≡ symbol_counts n (counted p g)
  counts_of n low = same_counts found sent n (same_at n low) ∙ ap (symbol_counts n) (counted_is p g)

  pub cheapest_of_words : (book : Book) → cheapest_for book (listed words.parents ++ (listed words.children ++ listed words.grandchildren)) ≡ chosen book p g
  cheapest_of_words book =
      λ i. cheapest book 2 (counts_of 2 (omega arith) i) ∷ cheapest book 3 (counts_of 3 (omega arith) i) ∷ cheapest book 4 (counts_of 4 (omega arith) i) ∷ []

has_later : (book : Book) (q : Plane) (old new : List ℤ) (h : ℕ) → first_mark new h ≡ first_mark old h → HasOptions book q old h → HasOptions book q new h
has_later book q old new h same p = record {
  options = ap options_in same ∙ p.options;
  known = subst AreOptions (sym (ap options_in same)) p.known;
  fresh = ap sent_in same ∙ p.fresh;
}

pub none_chosen : (book : Book) (q : Plane) (marks : List ℤ) → ChoosesFirst book q marks marks 0
none_chosen book q marks = record { depths = refl; whole = refl; each = λ g below. absurd (omega arith) }

pub one_chosen : (book : Book) (q : Plane) (m0 m1 m2 : List ℤ) (g : ℕ) (options : List ℕ) → ChoosesFirst book q m0 m1 g →
    options ≡ chosen book q g → AreOptions options →
    Stores m1 m2 g (record { options = options; sent = false ∷ false ∷ false ∷ [] }) → ChoosesFirst book q m0 m2 (g + 1)
one_chosen book q m0 m1 m2 g options so_far is known put = record {
  depths = put.depths ∙ so_far.depths;
  whole = put.whole ∙ so_far.whole;
  each = λ h below.
      elim (before_or_at h g below) [
        | inl lt ↦ has_later book q m1 m2 h (put.others h (λ e. omega arith)) (so_far.each h lt)
        | inr e ↦ subst (HasOptions book q m2) (sym e) here
      ];
}
  where
    before_or_at : (h g : ℕ) → h < g + 1 → (h < g) ⊎ (h ≡ g)
    before_or_at h g below = grind arith

    here : HasOptions book q m2 g
    here = record {
      options = put.options ∙ is;
      known = subst AreOptions (sym put.options) known;
      fresh = put.sent;
    }

pub all_chosen : (book : Book) (q : Plane) (m0 m1 : List ℤ) (n : ℕ) → div_ceil (length m0) 16 ≤ n → ChoosesFirst book q m0 m1 n → Chooses book q m0 m1
all_chosen book q m0 m1 n all p = record {
  depths = p.depths;
  whole = p.whole;
  are =
      record { each = λ g below. p.each g (omega (arith, below, all, p.whole)) };
}
