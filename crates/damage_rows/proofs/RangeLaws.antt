-- The first range of damaged rows from a row on.
use Rattle.std.proofs.Common.{◌≡◌, ◌≤◌, ◌<◌, ◌+◌, ◌-◌, ◌*◌, ℕ, zero, suc, List, length, map, refl, sym, ◌∙◌, ap, inl, inr, arith, Bool, true, false, ◌&&◌}
use Rattle.std.proofs.Common.{nat_le, nat_lt, filter, find, take_while, Option, Some, None}
use Rattle.std.specs.List.{range_with_len, list_any}
use Rattle.std.proofs.lemmas.Bool.Decides.{nat_tests}
use Rattle.std.proofs.lemmas.Bool.{cases_lt, and_right}
use Rattle.wave_defs.specs.Reach.{reaches}
use Rattle.stream_defs.specs.declared.range.RowRange.{RowRange}
use Rattle.stream_defs.specs.Marks.{next_range}
use Rattle.stream_defs.specs.Damage.{is_damaged, begins_range, range_from, run_length}
use Rattle.damage_rows.specs.Table.{is_missing}
use Rattle.damage_rows.proofs.TableLaws.{any_listed, none_listed}
use Rattle.stream_defs.proofs.Equations.{ranges-is}

-- ---- damaged rows

-- a row that is damaged is one of the image
pub damaged_within : (rows : ℕ) (missing : List ℕ) (row : ℕ) → is_damaged rows missing row ≡ true → row < rows
damaged_within rows missing row d = by (nat_lt row rows) refl d
  where
    by : (b : Bool) → nat_lt row rows ≡ b → (b && list_any (λ r. reaches r row) missing) ≡ true → row < rows
    by true e d = grind (arith, nat_tests)
    by false e d = absurd (let no : false ≡ true = d in cc)

-- what a missing block row reaches is damaged
pub damaged_by : (rows : ℕ) (missing : List ℕ) (row r : ℕ) → row < rows → is_missing missing r ≡ true → 8 * r ≤ row + 21 → row ≤ 8 * r + 29 →
    is_damaged rows missing row ≡ true
damaged_by rows missing row r within listed low high =
    let t : nat_lt row rows ≡ true = grind (arith, nat_tests) in
    let reached : reaches r row ≡ true = grind (arith, nat_tests) in
    rw t (any_listed (λ k. reaches k row) missing r listed reached)

-- and nothing else is, if all missing block rows are in the table
pub undamaged_by : (rows : ℕ) (missing : List ℕ) (row : ℕ) → ((r : ℕ) → is_missing missing r ≡ true → r < 32768) →
    ((r : ℕ) → r < 32768 → 8 * r ≤ row + 21 → row ≤ 8 * r + 29 → is_missing missing r ≡ false) → is_damaged rows missing row ≡ false
undamaged_by rows missing row low none = and_right (nat_lt row rows) _ (none_listed (λ r. reaches r row) missing (λ r listed. at r listed (reaches r row) refl))
  where
    at : (r : ℕ) → is_missing missing r ≡ true → (b : Bool) → reaches r row ≡ b → b ≡ false
    at r listed false e = refl
    at r listed true e =
        let first : 8 * r ≤ row + 21 = grind (arith, nat_tests) in
        let last : row ≤ 8 * r + 29 = grind (arith, nat_tests) in
        sym listed ∙ none r (low r listed) first last

module _ (rows : ℕ) (missing : List ℕ) where
  -- ---- a run of damaged rows

  -- damaged rows from a on, one after the other, among n
  going : (a n : ℕ) → ℕ
  going a n = length (take_while (is_damaged rows missing) (range_with_len a n))

  going_on : (a n : ℕ) → is_damaged rows missing a ≡ true → going a (suc n) ≡ suc (going (a + 1) n)
  unfolding going
  going_on a n e = grind (arith, nat_tests)

  -- one more damaged row
  pub run_on : (a : ℕ) → is_damaged rows missing a ≡ true → run_length rows missing a ≡ suc (run_length rows missing (a + 1))
  unfolding going
  run_on a e =
      let within = damaged_within rows missing a e in
      let left : rows - a ≡ suc (rows - (a + 1)) = omega (arith, within) in
      ap (going a) left ∙ going_on a (rows - (a + 1)) e

  -- ---- the first range

  -- the first range that begins among n rows from a on, at a row or later
  pub found : (from a n : ℕ) → Option RowRange
  found from a n = find (λ range. nat_le from range.first) (map (range_from rows missing) (filter (begins_range rows missing) (range_with_len a n)))

  found_here : (from a n : ℕ) → from ≤ a → begins_range rows missing a ≡ true → found from a (suc n) ≡ Some (range_from rows missing a)
  unfolding found
  found_here from a n le e = let t : nat_le from a ≡ true = grind (arith, nat_tests) in rw (e, t) refl

  found_later : (from a n : ℕ) → begins_range rows missing a ≡ false → found from a (suc n) ≡ found from (a + 1) n
  unfolding found
  found_later from a n e = rw e refl

  found_past : (from a n : ℕ) → a < from → found from a (suc n) ≡ found from (a + 1) n
  unfolding found
  found_past from a n lt = by (begins_range rows missing a) refl
    where
      by : (b : Bool) → begins_range rows missing a ≡ b → found from a (suc n) ≡ found from (a + 1) n
      by true e = let t : nat_le from a ≡ false = grind (arith, nat_tests) in rw (e, t) refl
      by false e = rw e refl

  -- what is found from a row on
  pub found_from : (from a : ℕ) → Option RowRange
  found_from from a = found from a (rows - a)

  pub found_from_start : (from a : ℕ) → a ≤ from → next_range (record { rows = rows; missing = missing }) from ≡ found_from from a
  unfolding found found_from
  found_from_start from zero le = simp ranges-is (ap (found from 0) (let whole : rows ≡ rows - 0 = omega arith in whole))
  found_from_start from (suc a) le =
      found_from_start from a (omega (arith, le)) ∙ elim (cases_lt a rows) [
        | inl within ↦ ap (found from a) (let left : rows - a ≡ suc (rows - (a + 1)) = omega (arith, within) in left) ∙ found_past from a (rows - (a + 1))
            (omega (arith, le)) ∙ ap (found from (a + 1)) (let same : rows - (a + 1) ≡ rows - suc a = omega arith in same)
            ∙ ap (λ k. found from k (rows - suc a)) (let next : a + 1 ≡ suc a = omega arith in next)
        | inr far ↦ ap (found from a) (let left : rows - a ≡ 0 = omega (arith, far) in left)
            ∙ sym (ap (found from (suc a)) (let none : rows - suc a ≡ 0 = omega (arith, far) in none))
      ]

  pub found_begins : (from a : ℕ) → from ≤ a → a < rows → begins_range rows missing a ≡ true → found_from from a ≡ Some (range_from rows missing a)
  unfolding found_from
  found_begins from a le within e =
      ap (found from a) (let left : rows - a ≡ suc (rows - (a + 1)) = omega (arith, within) in left) ∙ found_here from a (rows - (a + 1)) le e

  pub found_on : (from a : ℕ) → a < rows → begins_range rows missing a ≡ false → found_from from a ≡ found_from from (a + 1)
  unfolding found_from
  found_on from a within e =
      ap (found from a) (let left : rows - a ≡ suc (rows - (a + 1)) = omega (arith, within) in left) ∙ found_later from a (rows - (a + 1)) e

  pub found_none : (from a : ℕ) → rows ≤ a → found_from from a ≡ None
  unfolding found found_from
  found_none from a far = ap (found from a) (let left : rows - a ≡ 0 = omega (arith, far) in left)
