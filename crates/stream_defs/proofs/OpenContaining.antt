-- No pixel of the first rows outside the damage depends on what was lost, while the height isn't reported.
use Rattle.std.proofs.Common.{◌≡◌, inl, inr, ◌≤◌, ◌<◌, ◌+◌, ◌-◌, ◌*◌, ◌/◌, ℕ, zero, suc, ℤ, List, ◌∷◌, refl, sym, ap, ◌∙◌, arith, Bool, true, false, ◌||◌}
use Rattle.std.proofs.Common.{not, nat_le, nat_lt, if◌then◌else◌, Option, is_some, filter, mul-le-mul_right}
use Rattle.std.specs.List.{range_with_len, list_any}
use Rattle.std.proofs.lemmas.Bool.{false≢true, cases_lt, or_right, and_from, or_parts}
use Rattle.std.proofs.lemmas.Bool.Decides.{nat_tests}
use Rattle.base_122.specs.Sizes.{block_count}
use Rattle.base_122.specs.declared.geometry.Geometry.{Geometry}
use Rattle.raster_rows.specs.Pixels.{clamped}
use Rattle.wave_defs.specs.Reach.{reaches, Reaches, SameBlock, SameReceived}
use Rattle.wave_defs.proofs.ReachLaws.{rows-reach}
use Rattle.stream_defs.specs.Begun.{height, band_rows, block_rows}
use Rattle.stream_defs.specs.Damage.{is_missing, missing_below, missing_rows, is_damaged, is_covered, damage}
use Rattle.stream_defs.specs.Picture.{number_at, pyramid_with, picture_of, picture_with, picture}
use Rattle.stream_defs.proofs.DamageLaws.{whole_damage}
use Rattle.stream_defs.proofs.BandPlaces.{same_block}
use Rattle.stream_defs.proofs.PlacedLaws.{is_open}

-- The blocks of received segments among the first n block rows have the numbers that were received, and all other blocks have any numbers.
pub record AreWithin (g : Geometry) (received : ℕ → Option (List (List ℤ))) (numbers : ℕ → ℕ → ℤ) (n : ℕ) : Type 0 where
  pub at : (block i : ℕ) → block < n * block_count g.width → i < 64 → is_some (received (block / g.segment)) ≡ true →
      numbers block i ≡ number_at g received block i

-- ---- tests of numbers that follow one another

or_left : (a b : Bool) → a ≡ true → (a || b) ≡ true
or_left a b e = rw e refl

-- one passes
any_passes : (f : ℕ → Bool) (n a i : ℕ) → a ≤ i → i < a + n → f i ≡ true → list_any f (range_with_len a n) ≡ true
any_passes f zero a i low high e = absurd (omega (arith, low, high))
any_passes f (suc n) a i low high e = elim (cases_lt a i) [
  | inl later ↦ or_right (f a) _ (any_passes f n (a + 1) i (omega (arith, later)) (omega (arith, high)) e)
  | inr here ↦ or_left (f a) _ (ap f (let same : a ≡ i = omega (arith, here, low) in same) ∙ e)
]

-- one of those chosen passes
pub any_chosen : (f p : ℕ → Bool) (n a i : ℕ) → a ≤ i → i < a + n → p i ≡ true → f i ≡ true → list_any f (filter p (range_with_len a n)) ≡ true
any_chosen f p zero a i low high e h = absurd (omega (arith, low, high))
any_chosen f p (suc n) a i low high e h = elim (cases_lt a i) [
  | inl later ↦ past (p a) (any_chosen f p n (a + 1) i (omega (arith, later)) (omega (arith, high)) e h)
  | inr here ↦ let same : i ≡ a = omega (arith, here, low) in first (p a) (sym (ap p same) ∙ e) (sym (ap f same) ∙ h)
]
  where
    past : (b : Bool) → list_any f (filter p (range_with_len (a + 1) n)) ≡ true →
        list_any f (if b then a ∷ filter p (range_with_len (a + 1) n) else filter p (range_with_len (a + 1) n)) ≡ true
    past b rest = grind (arith, nat_tests, or_right)

    first : (b : Bool) → b ≡ true → f a ≡ true → list_any f (if b then a ∷ filter p (range_with_len (a + 1) n) else filter p (range_with_len (a + 1) n)) ≡ true
    first b e h = rw e (or_left (f a) _ h)

-- ---- lost blocks

module _ (g : Geometry) (received : ℕ → Option (List (List ℤ))) (numbers : ℕ → ℕ → ℤ) (n : ℕ) (unknown : g.rows ≡ 0) (wide : 2 ≤ block_count g.width)
    (are : AreWithin g received numbers n) where
  abbrev c : ℕ
  c = block_count g.width

  -- a block row that isn't known: a block of it is in no received segment, or it isn't reached
  abbrev lost : ℕ → Bool
  lost t = is_missing g received t || nat_le n t

  height_is : height g n ≡ 8 * n - 21
  height_is = rw (is_open g.rows unknown) refl

  -- a block of another block row is in a received segment
  kept_there : (t k : ℕ) → is_missing g received t ≡ false → k < c → is_some (received ((t * c + k) / g.segment)) ≡ true
  kept_there t k kept lt = by (is_some (received ((t * c + k) / g.segment))) refl
    where
      by : (b : Bool) → is_some (received ((t * c + k) / g.segment)) ≡ b → is_some (received ((t * c + k) / g.segment)) ≡ true
      by true e = e
      by false e = absurd (false≢true (sym kept ∙ any_passes (λ column. not (is_some (received ((t * c + column) / g.segment)))) c 0 k (omega arith)
          (omega (arith, lt)) (ap not e)))

  block_same : (t k : ℕ) → k < c → lost t ≡ false → SameBlock (pyramid_with numbers c g.weights.shifts)
      (pyramid_with (number_at g received) c g.weights.shifts) t k
  block_same t k lt kept =
      let known = or_parts (is_missing g received t) (nat_le n t) kept in
      let next : (t + 1) * c ≤ n * c = mul-le-mul_right c (omega (arith, below (nat_le n t) refl known.1)) in
      let more : (t + 1) * c ≡ t * c + c = grind arith in
      same_block numbers (number_at g received) c g.weights.shifts t k (λ i small. are.at (t * c + k) i (omega (arith, next, more, lt)) small
      (kept_there t k known.0 lt))
    where
      below : (b : Bool) → nat_le n t ≡ b → b ≡ false → t < n
      below b is e = let no : nat_le n t ≡ false = is ∙ e in grind (arith, nat_tests)

  -- no lost block row reaches a row that no range has
  unreached : (i t : ℕ) → i < height g n → is_covered (damage g received n) i ≡ false → lost t ≡ true → Reaches t i → ⊥
  unfolding missing_below
  unreached i t inside uncovered gone reached = by (is_missing g received t) (nat_le n t) refl refl gone
    where
      rows_are : block_rows g n ≡ n
      rows_are = rw (is_open g.rows unknown) refl

      near : 8 * t ≤ i + 21
      near = grind (arith, nat_tests)

      by : (a b : Bool) → is_missing g received t ≡ a → nat_le n t ≡ b → (a || b) ≡ true → ⊥
      by a true is past e = let far : n ≤ t = grind (arith, nat_tests) in absurd (let high = height_is in omega (arith, inside, high, near, far))
      by false false is past e = false≢true e
      by true false is past e =
          let low : t < block_rows g n = let lt : t < n = grind (arith, nat_tests) in omega (arith, lt, rows_are) in
          let rows : nat_lt i (height g n) ≡ true = grind (arith, nat_tests) in
          let undamaged : is_damaged (height g n) (missing_rows g received n) i ≡ false =
          sym ((whole_damage (height g n) (missing_rows g received n)).0.each i) ∙ uncovered in
          let some = any_chosen (λ t. reaches t i) (is_missing g received) (block_rows g n) 0 t (omega arith) (omega (arith, low)) is reached in
          false≢true (sym undamaged ∙ and_from (nat_lt i (height g n)) (list_any (λ t. reaches t i) (missing_rows g received n)) rows some)

  -- Whatever numbers are put in lost blocks, no pixel of the first rows outside the damage changes.
  pub contained_open : (i j : ℕ) → i < height g n → j < g.width → is_covered (damage g received n) i ≡ false →
      picture_with g numbers n i j ≡ picture g received n i j
  unfolding picture_of
  contained_open i j inside across uncovered =
      let bands : band_rows g n ≡ n + 3 = rw (is_open g.rows unknown) refl in
      let same : SameReceived (λ t s. lost t) (band_rows g n) c (pyramid_with numbers c g.weights.shifts)
      (pyramid_with (number_at g received) c g.weights.shifts) = grind (arith, nat_tests, block_same) in
      ap (clamped g.depth g.signed)
      (rows-reach (pyramid_with numbers c g.weights.shifts) (pyramid_with (number_at g received) c g.weights.shifts) lost (band_rows g n) c i j
      (omega (arith, bands)) wide
      (omega (arith, inside, height_is, bands)) (omega (arith, across)) same (λ t low gone reached. unreached i t inside uncovered gone reached))
