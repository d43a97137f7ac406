-- What the rectangles cover, and that no loss changes a pixel outside them. This project's own.
use Rattle.std.specs.Prelude.{◌≡◌, ℕ, ℤ, ◌<◌, ◌*◌, ◌/◌, ◌%◌, ◌&&◌, Bool, true, false, nat_le, List, Option, is_some}
use Rattle.std.specs.List.{range_with_len, list_any}
use Rattle.base_122.specs.Sizes.{block_count}
use Rattle.base_122.specs.Ranges.{IsGeometryInRange}
use Rattle.base_122.specs.declared.geometry.Geometry.{Geometry}
use Rattle.wave_defs.specs.Reach.{reaches}
use Rattle.stream_defs.specs.Begun.{block_rows, height}
use Rattle.stream_defs.specs.Damage.{damage, is_covered}
use Rattle.stream_defs.specs.Picture.{picture_with}
use Rattle.quick_look.specs.declared.rect.Rect.{Rect}
use Rattle.quick_look.specs.Rects.{rects_of, rects}

-- a pixel is in a rectangle, and in one of some
abbrev pub has_pixel : (row column : ℕ) → Rect → Bool
has_pixel i j rect = (nat_le rect.first_row i && nat_le i rect.last_row) && (nat_le rect.first_column j && nat_le j rect.last_column)

abbrev pub has_some : List Rect → (row column : ℕ) → Bool
has_some rects i j = list_any (has_pixel i j) rects

-- a missing block of these block rows, with this number of columns each, reaches a pixel by its row and by its column
abbrev pub is_reached : (block_rows columns : ℕ) → (lost : ℕ → Bool) → (row column : ℕ) → Bool
is_reached block_rows columns lost i j =
    list_any (λ block. lost block && (reaches (block / columns) i && reaches (block % columns) j)) (range_with_len 0 (block_rows * columns))

-- Exactly the pixels that a missing block reaches are in a rectangle; so the rectangles are within the damaged rows. They are determined
-- by which blocks of their block rows are missing.
pub record RectsAreReach : Type 0 where
  pub same : (rows width block_rows : ℕ) (lost : ℕ → Bool) (i j : ℕ) → i < rows → j < width →
      has_some (rects_of rows width block_rows lost) i j ≡ is_reached block_rows (block_count width) lost i j
  pub within : (g : Geometry) (received : ℕ → Option (List (List ℤ))) (n i j : ℕ) → i < height g n → j < g.width → is_covered (damage g received n) i ≡ false →
      has_some (rects g received n) i j ≡ false
  pub alone : (rows width block_rows : ℕ) (p q : ℕ → Bool) → 0 < width → ((block : ℕ) → block < block_rows * block_count width → p block ≡ q block) →
      rects_of rows width block_rows p ≡ rects_of rows width block_rows q

-- two images with this number of rows and columns have the same pixels outside these rectangles
pub record SameOutsideRects (rows width : ℕ) (rects : List Rect) (a b : ℕ → ℕ → ℤ) : Type 0 where
  pub at : (i j : ℕ) → i < rows → j < width → has_some rects i j ≡ false → a i j ≡ b i j

-- The blocks of received segments have the same numbers, as far as the kept heads reach n block rows if the height isn't known.
pub record SameWhereReceived (g : Geometry) (received : ℕ → Option (List (List ℤ))) (n : ℕ) (p q : ℕ → ℕ → ℤ) : Type 0 where
  pub at : (block i : ℕ) → block < block_rows g n * block_count g.width → i < 64 → is_some (received (block / g.segment)) ≡ true → p block i ≡ q block i

-- Whatever numbers the missing blocks have, no pixel outside the rectangles changes.
pub record LossesStayInRects : Type 0 where
  pub whatever : (g : Geometry) (received : ℕ → Option (List (List ℤ))) (n : ℕ) (p q : ℕ → ℕ → ℤ) → IsGeometryInRange g → SameWhereReceived g received n p q →
      SameOutsideRects (height g n) g.width (rects g received n) (picture_with g p n) (picture_with g q n)
