-- The numbers of a block, by its squares of two rows and two columns.
use Rattle.std.proofs.Common.{◌≡◌, ℕ, zero, suc, ◌+◌, ◌-◌, ◌*◌, ◌/◌, ◌%◌, ◌^◌, ◌<◌, ◌≤◌, ℤ, pos, ◌*ℤ◌, List, length, get_or, refl, sym, ap, ◌∙◌, arith}
use Rattle.std.proofs.Common.{slice_index, slice_set, unsigned_abs, mul-le-mul_left}
use Rattle.std.proofs.lemmas.Bool.Decides.{nat_tests}
use Rattle.wave_defs.specs.Blocks.{Place, place_of, block_side, family_band}
use Rattle.block_families.specs.Gathering.{weighted_at, run_at, Fills, FillsEach, square}
use Rattle.block_families.specs.Places.{place_in}
use Rattle.block_families.specs.Scattering.{in_square}
use Rattle.block_families.proofs.Filling.{each_as, fills_four}
use Rattle.wave_defs.proofs.Equations.{place_of-is}

same_place : (b b' r r' c c' : ℕ) → b ≡ b' → r ≡ r' → c ≡ c' → ◌≡◌ {A = Place} (record { band = b; row = r; column = c })
    (record { band = b'; row = r'; column = c' })
same_place b b' r r' c c' eb er ec = grind (arith, nat_tests)

-- ---- where the numbers are

pub top_place : (i : ℕ) → i < 4 → place_of i ≡ record { band = (place_of i).band; row = 0; column = 0 }
top_place zero h = rw place_of-is refl
top_place (suc zero) h = rw place_of-is refl
top_place (suc (suc zero)) h = rw place_of-is refl
top_place (suc (suc (suc zero))) h = rw place_of-is refl
top_place (suc (suc (suc (suc i)))) h = rw place_of-is (absurd (omega arith))

child_place : (i : ℕ) → 4 ≤ i → i < 16 → place_of i ≡ record { band = family_band 2 ((i - 4) / 4); row = i % 4 / 2; column = i % 4 % 2 }
child_place i h k = rw place_of-is (grind arith)

grandchild_place : (i : ℕ) → 16 ≤ i → place_of i ≡ record {
  band = family_band 1 ((i - 16) / 16);
  row = 2 * (i % 16 / 4 / 2) + i % 4 / 2;
  column =
      2 * (i % 16 / 4 % 2) + i % 4 % 2;
}
grandchild_place i h = rw place_of-is (grind arith)

pub children_at : (band family at : ℕ) → band ≡ family_band 2 family → family < 3 → at ≡ 4 + 4 * family → (i : ℕ) → at ≤ i → i < at + 4 →
    place_of i ≡ record { band = band; row = 0 + (i - at) / 2; column = 0 + (i - at) % 2 }
children_at band family at eb hf ea i h k = grind (arith, nat_tests, child_place, same_place)

pub grandchildren_at : (band half q row at : ℕ) → band ≡ family_band 1 (half / 2) → half < 6 → q < 2 → row ≡ 2 * (half % 2) → at ≡ 16 + 8 * half + 4 * q →
    (i : ℕ) → at ≤ i → i < at + 4 →
    place_of i ≡ record { band = band; row = row + (i - at) / 2; column = 2 * q + (i - at) % 2 }
grandchildren_at band half q row at eb hh hq er ea i h k = grind (arith, nat_tests, grandchild_place, same_place)

pub side_two : (band family : ℕ) → band ≡ family_band 2 family → block_side band ≡ 2
side_two band family e = grind arith

pub side_four : (band family : ℕ) → band ≡ family_band 1 family → block_side band ≡ 4
side_four band family e = grind arith

placed : (column i : ℕ) (p : Place) → place_of i ≡ p → place_in column i ≡ record { band = p.band; row = p.row; column = block_side p.band * column + p.column }
placed column i p e = ap (λ (q : Place). record { band = q.band; row = q.row; column = block_side q.band * column + q.column }) e

-- a square of children, and one of grandchildren
pub children_square : (band s column k : ℕ) → band ≡ family_band 2 s → s < 3 → k < 4 → in_square (record { band = band; row = 0; column = 2 * column }) k
    ≡ place_in column (4 + 4 * s + k)
children_square band s column k eb hs hk =
    let at = 4 + 4 * s in
    let same : 2 * column + k % 2 ≡ block_side band * column + (0 + (at + k - at) % 2) = rw (side_two band s eb) (omega arith) in
    same_place _ _ _ _ _ _ refl (omega arith) same ∙ sym (placed column (at + k) _ (children_at band s at eb hs refl (at + k) (omega arith) (omega arith)))

pub grandchildren_square : (band s row right column k : ℕ) → band ≡ family_band 1 ((s - 3) / 4) → 3 ≤ s → s < 15 → row ≡ 2 * ((s - 3) % 4 / 2) →
    right ≡ 2 * ((s - 3) % 2) → k < 4 →
    in_square (record { band = band; row = row; column = 4 * column + right }) k ≡ place_in column (4 + 4 * s + k)
grandchildren_square band s row right column k eb lo hi er ec hk =
    let at = 4 + 4 * s in
    let half = (s - 3) / 2 in
    let q = (s - 3) % 2 in
    let quarter : (s - 3) / 4 ≡ half / 2 = omega arith in
    let eb2 : band ≡ family_band 1 (half / 2) = eb ∙ ap (family_band 1) quarter in
    let same : 4 * column + right + k % 2 ≡ block_side band * column + (2 * q + (at + k - at) % 2) = rw (side_four band (half / 2) eb2) (omega arith) in
    same_place _ _ _ _ _ _ refl (omega arith) same ∙ sym (placed column (at + k) _ (grandchildren_at band half q row at eb2 (omega arith) (omega arith)
    (omega arith) (omega arith) (at + k) (omega arith) (omega arith)))

-- ---- the numbers

pub square_put : (upper lower : List ℤ) (start s at : ℕ) (old : List ℤ) (a b c d : ℤ) → at + 4 ≤ length old →
    a ≡ get_or upper start (pos 0) *ℤ pos (2 ^ s) → b ≡ get_or upper (start + 1) (pos 0) *ℤ pos (2 ^ s) →
    c ≡ get_or lower start (pos 0) *ℤ pos (2 ^ s) → d ≡ get_or lower (start + 1) (pos 0) *ℤ pos (2 ^ s) →
    Fills (λ i. square upper lower start (i - at) *ℤ pos (2 ^ s)) at 4 old (slice_set (slice_set (slice_set (slice_set old at a) (at + 1) b) (at + 2) c)
    (at + 3) d)
square_put upper lower start s at old a b c d room ea eb ec ed =
    let value : ℕ → ℤ = λ i. square upper lower start (i - at) *ℤ pos (2 ^ s) in
    let at_part : (i k : ℕ) → k ≡ i - at → square upper lower start k *ℤ pos (2 ^ s) ≡ value i =
    λ i k e. ap (λ n. square upper lower start n *ℤ pos (2 ^ s)) e in
    let first : (xs : List ℤ) → get_or xs start (pos 0) *ℤ pos (2 ^ s) ≡ get_or xs (start + 0) (pos 0) *ℤ pos (2 ^ s) =
    λ xs. ap (λ n. get_or xs n (pos 0) *ℤ pos (2 ^ s)) (omega arith) in
    fills_four value at a b c d old room
    (ea ∙ first upper ∙ at_part at 0 (omega arith)) (eb ∙ at_part (at + 1) 1 (omega arith)) (ec ∙ first lower ∙ at_part (at + 2) 2 (omega arith))
    (ed ∙ at_part (at + 3) 3 (omega arith))

pub weighted_there : (number : Place → ℤ) (weights : List ℕ) (column i : ℕ) (p : Place) → place_of i ≡ p →
    weighted_at number weights column i ≡ number (record { band = p.band; row = p.row; column = block_side p.band * column + p.column }) *ℤ pos
    (2 ^ slice_index weights p.band)
weighted_there number weights column i p e = grind (arith, nat_tests, pos, slice_index)

top_side : (i : ℕ) → i < 4 → block_side (place_of i).band ≡ 1
top_side zero h = rw place_of-is refl
top_side (suc zero) h = rw place_of-is refl
top_side (suc (suc zero)) h = rw place_of-is refl
top_side (suc (suc (suc zero))) h = rw place_of-is refl
top_side (suc (suc (suc (suc i)))) h = rw place_of-is (absurd (omega arith))

-- the number of a row of one of the four upper bands
pub top_at : (number : Place → ℤ) (weights : List ℕ) (columns column i band s : ℕ) (row : List ℤ) → i < 4 → column < columns → band ≡ (place_of i).band →
    s ≡ slice_index weights band →
    ((j : ℕ) → j < block_side band * columns → get_or row j (pos 0) ≡ number (record { band = band; row = 0; column = j })) →
    get_or row column (pos 0) *ℤ pos (2 ^ s) ≡ weighted_at number weights column i
top_at number weights columns column i band s row few inside eb es numbers =
    grind (arith, nat_tests, top_side, pos, same_place, slice_index, weighted_there, top_place)

pub top_is : (band column i : ℕ) → i < 4 → band ≡ (place_of i).band → record { band = band; row = 0; column = column } ≡ place_in column i
top_is band column i few eb = grind (arith, nat_tests, top_side, same_place, placed, top_place)

module _ (number : Place → ℤ) (weights : List ℕ) (columns column band row next x s start : ℕ) (upper lower : List ℤ)
    (inside : column < columns) (room : x + 2 ≤ block_side band) (begin : start ≡ block_side band * column + x) (shift : s ≡ slice_index weights band)
    (after : next ≡ row + 1)
    (above : (j : ℕ) → j < block_side band * columns → get_or upper j (pos 0) ≡ number (record { band = band; row = row; column = j }))
    (below : (j : ℕ) → j < block_side band * columns → get_or lower j (pos 0) ≡ number (record { band = band; row = next; column = j })) where
  in_row : (d : ℕ) → d < 2 → start + d < block_side band * columns
  in_row d h = grind (arith, nat_tests, mul-le-mul_left)

  same_number : (r r' c c' : ℕ) → r ≡ r' → c ≡ c' → number (record { band = band; row = r; column = c })
      ≡ number (record { band = band; row = r'; column = c' })
  same_number r r' c c' er ec = ap number (same_place band band r r' c c' refl er ec)

  part : (k : ℕ) → k < 4 → square upper lower start k ≡ number (record { band = band; row = row + k / 2; column = block_side band * column + (x + k % 2) })
  part zero h = above (start + 0) (in_row 0 (omega arith)) ∙ same_number _ _ _ _ (omega arith) (omega arith)
  part (suc zero) h = above (start + 1) (in_row 1 (omega arith)) ∙ same_number _ _ _ _ (omega arith) (omega arith)
  part (suc (suc zero)) h = below (start + 0) (in_row 0 (omega arith)) ∙ same_number _ _ _ _ (omega arith) (omega arith)
  part (suc (suc (suc zero))) h = below (start + 1) (in_row 1 (omega arith)) ∙ same_number _ _ _ _ (omega arith) (omega arith)
  part (suc (suc (suc (suc k)))) h = absurd (omega arith)

  square_at : (i k : ℕ) → k < 4 → place_of i ≡ record { band = band; row = row + k / 2; column = x + k % 2 } →
      square upper lower start k *ℤ pos (2 ^ s) ≡ weighted_at number weights column i
  square_at i k h e = grind (arith, nat_tests, pos, part, weighted_there)

  pub square_fits : (at : ℕ) → at + 4 ≤ 64 → ((i : ℕ) → at ≤ i → i < at + 4 → place_of i ≡ record {
    band = band;
    row = row + (i - at) / 2;
    column =
        x + (i - at) % 2;
  }) →
      ((i : ℕ) → i < 64 → unsigned_abs (weighted_at number weights column i) < 2 ^ 31) →
      (k : ℕ) → k < 4 → unsigned_abs (square upper lower start k *ℤ pos (2 ^ s)) < 2 ^ 31
  square_fits at most places fits k h =
      let back : at + k - at ≡ k = omega arith in
      let place : place_of (at + k) ≡ record { band = band; row = row + k / 2; column = x + k % 2 } =
      places (at + k) (omega arith) (omega arith) ∙ same_place _ _ _ _ _ _ refl (ap (λ n. row + n / 2) back) (ap (λ n. x + n % 2) back) in
      rw (square_at (at + k) k h place) (fits (at + k) (omega arith))

-- a square of each of the first n blocks from a column on
module _ (number : Place → ℤ) (weights : List ℕ) (columns column n band row next x s start step : ℕ) (upper lower : List ℤ)
    (inside : column + n ≤ columns) (room : x + 2 ≤ block_side band) (apart : step ≡ block_side band) (begin : start ≡ step * column + x)
    (shift : s ≡ slice_index weights band) (after : next ≡ row + 1)
    (above : (j : ℕ) → j < block_side band * columns → get_or upper j (pos 0) ≡ number (record { band = band; row = row; column = j }))
    (below : (j : ℕ) → j < block_side band * columns → get_or lower j (pos 0) ≡ number (record { band = band; row = next; column = j })) where
  begin_at : (k : ℕ) → start + step * k ≡ block_side band * (column + k) + x
  begin_at k =
      let both : step * (column + k) ≡ step * column + step * k = omega arith in
      let side : step * (column + k) ≡ block_side band * (column + k) = ap (λ m. m * (column + k)) apart in
      omega (arith, begin, both, side)

  pub squares_fit : (at : ℕ) → at + 4 ≤ 64 → ((i : ℕ) → at ≤ i → i < at + 4 → place_of i ≡ record {
    band = band;
    row = row + (i - at) / 2;
    column =
        x + (i - at) % 2;
  }) →
      ((k i : ℕ) → k < n → i < 64 → unsigned_abs (run_at number weights column k i) < 2 ^ 31) →
      (k i : ℕ) → k < n → i < 4 → unsigned_abs (square upper lower (start + step * k) i *ℤ pos (2 ^ s)) < 2 ^ 31
  squares_fit at most places fits k i few low =
      square_fits number weights columns (column + k) band row next x s (start + step * k) upper lower (omega (arith, inside, few)) room (begin_at k) shift
      after above below at most places (λ j lt. fits k j few lt) i low

  pub squares_fill : (at : ℕ) (old new : List ℤ) → ((i : ℕ) → at ≤ i → i < at + 4 → place_of i ≡ record {
    band = band;
    row = row + (i - at) / 2;
    column =
        x + (i - at) % 2;
  }) →
      FillsEach (λ k i. square upper lower (start + step * k) (i - at) *ℤ pos (2 ^ s)) at 4 n old new → FillsEach (run_at number weights column) at 4 n old new
  squares_fill at old new places f =
      each_as (run_at number weights column) (λ k i. square upper lower (start + step * k) (i - at) *ℤ pos (2 ^ s)) at 4 n old new f
      (λ k i few h l. square_at number weights columns (column + k) band row next x s (start + step * k) upper lower (omega (arith, inside, few)) room
      (begin_at k) shift after above below i (i - at) (omega (arith, h, l)) (places i h l))
