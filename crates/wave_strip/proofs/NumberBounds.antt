-- Bounds on the numbers of a block row, whatever the image is.
use Rattle.std.proofs.Common.{◌≡◌, ℕ, zero, suc, ◌+◌, ◌-◌, ◌*◌, ◌<◌, ◌≤◌, ℤ, pos, List, [], length, get_or, sym, subst, arith, inl, inr}
use Rattle.std.proofs.lemmas.Bool.{cases_lt}
use Rattle.std.proofs.lemmas.Int.{ints}
use Rattle.std.proofs.lemmas.List.{get_or_past}
use Rattle.wave_defs.specs.Within.{IsWithin}
use Rattle.wave_defs.specs.Rings.{RowsWithin}
use Rattle.wave_defs.specs.Blocks.{Place, block_side}
use Rattle.block_families.specs.Places.{IsWithin as IsInRow}
use Rattle.wave_strip.specs.declared.columns.Columns.{Columns}
use Rattle.wave_strip.specs.declared.strip.StripWave.{StripWave}
use Rattle.wave_strip.specs.Columns.{IsSmall, kept_sample, low_sample, high_sample}
use Rattle.wave_strip.specs.Strip.{number_in}

none_within : (bound : ℕ) → IsWithin bound (pos 0)
none_within bound = record { above = omega (arith, ints); below = omega (arith, ints) }

wider : (a b : ℕ) (z : ℤ) → a ≤ b → IsWithin a z → IsWithin b z
wider a b z le h = record { above = omega (arith, ints, h.above); below = omega (arith, ints, h.below) }

kept_within : (bound w kept made j column : ℕ) (rows : List (List ℤ)) → RowsWithin bound w rows → column < w →
    IsWithin bound (kept_sample rows kept made j column)
kept_within bound w kept made j column rows small inside =
    let t = j + kept - made in
    elim (cases_lt t (length rows)) [
      | inl lt ↦ (small.at t lt).at column inside
      | inr ge ↦
          let none : get_or rows t [] ≡ [] = get_or_past rows t [] ge in
          subst (λ (row : List ℤ). IsWithin bound (get_or row column (pos 0))) (sym none) (none_within bound)
    ]

low_within : (m j column : ℕ) (c : Columns) → IsSmall m c → column < c.width → IsWithin (5 * m) (low_sample c j column)
low_within m j column c small inside = kept_within (5 * m) c.width c.kept _ j column c.lows small.lows inside

high_within : (m j column : ℕ) (c : Columns) → IsSmall m c → column < c.width → IsWithin (5 * m) (high_sample c j column)
high_within m j column c small inside = kept_within (5 * m) c.width c.kept _ j column c.highs small.highs inside

-- the number at a place of a band
band_small : (s : StripWave) (band row i : ℕ) → band < 10 → i < block_side band * s.third.half →
    IsWithin 16000000 (number_in s (record { band = band; row = row; column = i }))
band_small s zero row i h lt = wider 409600 16000000 _ (omega arith)
    (high_within 81920 _ _ s.first.columns s.levels.first_small (omega (arith, lt, s.levels.halves, s.levels.quarters, s.first.wide)))
band_small s (suc zero) row i h lt = wider 409600 16000000 _ (omega arith)
    (low_within 81920 _ _ s.first.columns s.levels.first_small (omega (arith, lt, s.levels.halves, s.levels.quarters, s.first.wide)))
band_small s (suc (suc zero)) row i h lt = wider 409600 16000000 _ (omega arith)
    (high_within 81920 _ _ s.first.columns s.levels.first_small (omega (arith, lt, s.levels.halves, s.levels.quarters, s.first.wide)))
band_small s (suc (suc (suc zero))) row i h lt = wider 2560000 16000000 _ (omega arith)
    (high_within 512000 _ _ s.second.columns s.levels.second_small (omega (arith, lt, s.levels.quarters, s.second.wide)))
band_small s (suc (suc (suc (suc zero)))) row i h lt =
    wider 2560000 16000000 _ (omega arith) (low_within 512000 _ _ s.second.columns s.levels.second_small (omega (arith, lt, s.levels.quarters, s.second.wide)))
band_small s (suc (suc (suc (suc (suc zero))))) row i h lt =
    wider 2560000 16000000 _ (omega arith) (high_within 512000 _ _ s.second.columns s.levels.second_small (omega (arith, lt, s.levels.quarters, s.second.wide)))
band_small s (suc (suc (suc (suc (suc (suc zero)))))) row i h lt =
    high_within 3200000 _ _ s.third.columns s.levels.third_small (omega (arith, lt, s.third.wide))
band_small s (suc (suc (suc (suc (suc (suc (suc zero))))))) row i h lt =
    low_within 3200000 _ _ s.third.columns s.levels.third_small (omega (arith, lt, s.third.wide))
band_small s (suc (suc (suc (suc (suc (suc (suc (suc zero)))))))) row i h lt =
    high_within 3200000 _ _ s.third.columns s.levels.third_small (omega (arith, lt, s.third.wide))
band_small s (suc (suc (suc (suc (suc (suc (suc (suc (suc zero))))))))) row i h lt =
    low_within 3200000 _ _ s.third.columns s.levels.third_small (omega (arith, lt, s.third.wide))
band_small s (suc (suc (suc (suc (suc (suc (suc (suc (suc (suc band)))))))))) row i h lt = absurd (omega arith)

-- the numbers of the available block row
pub number_small : (s : StripWave) (p : Place) → IsInRow s.third.half p → IsWithin 16000000 (number_in s p)
number_small s p inside = band_small s p.band p.row p.column inside.band inside.column
