-- The sizes of the three levels of a strip.
use Rattle.std.specs.Prelude.{◌≡◌, ◌*◌, ◌^◌, ◌≤◌}
use Rattle.wave_strip.specs.declared.level.Level as code
use Rattle.wave_strip.specs.Columns.{IsSmall}

-- Each level is half as wide as the one above it. At 8 * r + 29 rows the first level has reached low row 4 *
-- r + 12 and the second 2 * r + 4; the end completes three block rows at once. So 13 rows of the first level
-- are kept, 6 of the second and 3 of the third.
pub record AreLevels (a b c : code.Level) : Type 0 where
  pub halves : a.half ≡ 2 * b.half
  pub quarters : b.half ≡ 2 * c.half
  pub most : c.half ≤ 2 ^ 17
  pub first_kept : a.columns.kept ≡ 13
  pub second_kept : b.columns.kept ≡ 6
  pub third_kept : c.columns.kept ≡ 3
  pub first_small : IsSmall 81920 a.columns
  pub second_small : IsSmall 512000 b.columns
  pub third_small : IsSmall 3200000 c.columns
