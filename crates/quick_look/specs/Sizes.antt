-- The size of a picture, and the gaps that an image of its width can have. This project's own.
use Rattle.std.specs.Prelude.{◌≤◌, ◌<◌, ◌*◌, ℕ}
use Rattle.base_122.specs.Ranges.{IsWithin, width_range, rows_range}
use Rattle.base_122.specs.Sizes.{block_count}
use Rattle.quick_look.specs.declared.gap.Gap.{Gap}
use Rattle.quick_look.specs.declared.rect_lines.PictureSize.{PictureSize}

-- at most the rows of the tallest image, and a width in range
pub record IsSize (size : PictureSize) : Type 0 where
  pub rows : size.rows ≤ rows_range.most
  pub width : IsWithin width_range size.width

-- a gap is in the blocks of the tallest image
pub record IsWithinImage (width : ℕ) (gap : Gap) : Type 0 where
  pub order : gap.first ≤ gap.last
  pub few : gap.last < 32768 * block_count width
