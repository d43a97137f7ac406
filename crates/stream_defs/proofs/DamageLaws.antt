-- The ranges of damaged rows cover exactly these, and have a row between them.
use Rattle.std.proofs.Common.{◌≡◌, inl, inr, ◌≤◌, ◌<◌, ◌+◌, ◌-◌, ℕ, zero, suc, List, [], ◌∷◌, length, map, refl, sym, ap, subst, ◌∙◌, arith, Bool, true}
use Rattle.std.proofs.Common.{false, ◌&&◌, ◌||◌, not, nat_le, nat_lt, filter, take_while}
use Rattle.std.specs.List.{range_with_len}
use Rattle.std.proofs.lemmas.Bool.{cases_lt, or_left, and_left}
use Rattle.std.proofs.lemmas.Bool.Decides.{nat_tests}
use Rattle.std.proofs.Math.Bool.{and-true}
use Rattle.stream_defs.specs.declared.range.RowRange.{RowRange}
use Rattle.stream_defs.specs.Damage.{is_damaged, begins_range, run_length, range_from, ranges, is_covered, Covers, LieApart}

-- a row in a range, and one outside of it
inside : (first last row : ℕ) → first ≤ row → row ≤ last → (nat_le first row && nat_le row last) ≡ true
inside first last row low high = grind (arith, nat_tests)

below : (first last row : ℕ) → row < first → (nat_le first row && nat_le row last) ≡ false
below first last row low = grind (arith, nat_tests)

above : (first last row : ℕ) → last < row → (nat_le first row && nat_le row last) ≡ false
above first last row high = grind (arith, nat_tests)

pub false_or : (a b c : Bool) → a ≡ false → b ≡ c → (a || b) ≡ c
false_or a b c e f = rw e f

-- ranges that are separate from a row on are so from an earlier one
pub apart_earlier : (m n : ℕ) (rs : List RowRange) → m ≤ n → LieApart n rs → LieApart m rs
apart_earlier m n [] le a = tt
apart_earlier m n (r ∷ rs) le a = let low = a.0 in ((omega (arith, low, le)), a.1, a.2)

module _ (rows : ℕ) (missing : List ℕ) where
  -- the ranges that begin among n rows from a on
  some_ranges : (a n : ℕ) → List RowRange
  some_ranges a n = map (range_from rows missing) (filter (begins_range rows missing) (range_with_len a n))

  -- damaged rows from a on, one after the other, among n
  going : (a n : ℕ) → ℕ
  going a n = length (take_while (is_damaged rows missing) (range_with_len a n))

  none_past : (row : ℕ) → rows ≤ row → is_damaged rows missing row ≡ false
  none_past row far = let t : nat_lt row rows ≡ false = grind (arith, nat_tests) in rw t refl

  step_begins : (a n : ℕ) → begins_range rows missing a ≡ true → some_ranges a (suc n) ≡ range_from rows missing a ∷ some_ranges (a + 1) n
  unfolding some_ranges
  step_begins a n e = rw e refl

  step_past : (a n : ℕ) → begins_range rows missing a ≡ false → some_ranges a (suc n) ≡ some_ranges (a + 1) n
  unfolding some_ranges
  step_past a n e = rw e refl

  going_on : (a n : ℕ) → is_damaged rows missing a ≡ true → going a (suc n) ≡ suc (going (a + 1) n)
  unfolding going
  going_on a n e = grind (arith, nat_tests)

  going_ends : (a n : ℕ) → is_damaged rows missing a ≡ false → going a (suc n) ≡ 0
  unfolding going
  going_ends a n e = rw e refl

  not_begins : (a b c : Bool) → b ≡ true → c ≡ false → (a && (c || not b)) ≡ false
  not_begins a b c x y = grind (arith, nat_tests)

  -- If a range may begin at a: what the ranges from there on cover, and that they are separate.
  record Fresh (a n : ℕ) : Type 0 where
    before : (row : ℕ) → row < a → is_covered (some_ranges a n) row ≡ false
    from : (row : ℕ) → a ≤ row → is_covered (some_ranges a n) row ≡ is_damaged rows missing row
    apart : LieApart a (some_ranges a n)

  -- If the row before a is damaged: the rows from a on that continue it, and what the ranges after them cover.
  record Within (a n : ℕ) : Type 0 where
    gone : (row : ℕ) → a ≤ row → row < a + going a n → is_damaged rows missing row ≡ true
    before : (row : ℕ) → row < a + going a n → is_covered (some_ranges a n) row ≡ false
    from : (row : ℕ) → a + going a n ≤ row → is_covered (some_ranges a n) row ≡ is_damaged rows missing row
    apart : LieApart (a + going a n + 1) (some_ranges a n)

  fresh_after : (a : ℕ) → is_damaged rows missing a ≡ false → begins_range rows missing (a + 1) ≡ is_damaged rows missing (a + 1)
  fresh_after a e = grind (arith, nat_tests, and-true)

  fresh_start : begins_range rows missing 0 ≡ is_damaged rows missing 0
  fresh_start = and-true (is_damaged rows missing 0)

  past_a : (a n : ℕ) → is_damaged rows missing a ≡ false → some_ranges a (suc n) ≡ some_ranges (a + 1) n
  past_a a n e = step_past a n (and_left (is_damaged rows missing a) _ e)

  from_a : (a n : ℕ) → is_damaged rows missing a ≡ false → Fresh (a + 1) n → (row : ℕ) → a ≤ row → is_covered (some_ranges a (suc n)) row
      ≡ is_damaged rows missing row
  from_a a n e f row le = grind (arith, nat_tests, past_a)

  fresh_past : (a n : ℕ) → is_damaged rows missing a ≡ false → Fresh (a + 1) n → Fresh a (suc n)
  fresh_past a n e f = grind (arith, nat_tests, past_a, from_a, apart_earlier)

  within_ends : (a n : ℕ) → is_damaged rows missing a ≡ false → Fresh (a + 1) n → Within a (suc n)
  within_ends a n e f = grind (arith, nat_tests, going, going_ends, past_a, from_a)

  fresh_begins : (a n : ℕ) → a + suc n ≡ rows → is_damaged rows missing a ≡ true → begins_range rows missing a ≡ true → Within (a + 1) n → Fresh a (suc n)
  unfolding going
  fresh_begins a n whole e b w =
      let g = going (a + 1) n in
      let left : rows - a ≡ suc n = omega (arith, whole) in
      let run : run_length rows missing a ≡ suc g = ap (λ m. length (take_while (is_damaged rows missing) (range_with_len a m))) left ∙ going_on a n e in
      let last : (range_from rows missing a).last ≡ a + g = ap (λ m. a + m - 1) run ∙ (let h : a + suc g - 1 ≡ a + g = omega arith in h) in
      let all = step_begins a n b in
      record {
        before = λ row lt. ap (λ rs. is_covered rs row) all
            ∙ false_or _ _ _ (below a (range_from rows missing a).last row lt) (w.before row (omega (arith, lt)));
        from = λ row le. ap (λ rs. is_covered rs row) all ∙ elim (cases_lt (a + g) row) [
          | inl more ↦ false_or _ _ _ (above a (range_from rows missing a).last row (omega (arith, more, last))) (w.from row (omega (arith, more)))
          | inr here ↦ or_left _ _ (inside a (range_from rows missing a).last row le (omega (arith, here, last))) ∙ sym (elim (cases_lt a row) [
            | inl later ↦ w.gone row (omega (arith, later)) (omega (arith, here))
            | inr same ↦ ap (is_damaged rows missing) (let h : row ≡ a = omega (arith, same, le) in h) ∙ e
          ])
        ];
        apart = subst (LieApart a) (sym all) (
          (omega arith),
          (omega (arith, last)),
          subst (λ m. LieApart m (some_ranges (a + 1) n)) (let h : a + 1 + g + 1 ≡ (range_from rows missing a).last + 2 = omega (arith, last) in h) w.apart,
        );
      }

  within_on : (a n : ℕ) → is_damaged rows missing a ≡ true → 1 ≤ a → is_damaged rows missing (a - 1) ≡ true → Within (a + 1) n → Within a (suc n)
  within_on a n e some before w = grind (arith, nat_tests, step_past, not_begins, going_on, going)

  Both : ℕ → ℕ → Type 0
  Both n a = (begins_range rows missing a ≡ is_damaged rows missing a → Fresh a n) × (1 ≤ a → is_damaged rows missing (a - 1) ≡ true → Within a n)

  both_more : (n a : ℕ) → a + suc n ≡ rows → (b : Bool) → is_damaged rows missing a ≡ b → Both n (a + 1) → Both (suc n) a
  unfolding Both
  both_more n a whole true e next =
      let w = next.1 (omega arith) (ap (is_damaged rows missing) (omega arith) ∙ e) in
      (λ f. fresh_begins a n whole e (f ∙ e) w, λ some before. within_on a n e some before w)
  both_more n a whole false e next =
      let f = next.0 (fresh_after a e) in
      (λ x. fresh_past a n e f, λ some before. within_ends a n e f)

  both : (n a : ℕ) → a + n ≡ rows → Both n a
  unfolding Both some_ranges going
  both zero a whole = grind (arith, nat_tests, none_past)
  both (suc n) a whole = both_more n a whole (is_damaged rows missing a) refl (both n (a + 1) (omega (arith, whole)))

  pub whole_damage : Covers (ranges rows missing) rows missing × LieApart 0 (ranges rows missing)
  unfolding ranges some_ranges Both
  whole_damage =
      let f = (both rows 0 (omega arith)).0 fresh_start in
      (record { each = λ row. f.from row (omega arith) }, f.apart)
