-- The rectangles that missing blocks reach. This project's own.
use Rattle.std.specs.Prelude.{ℕ, ℤ, ◌+◌, ◌-◌, ◌*◌, ◌/◌, ◌%◌, ◌==◌, ◌&&◌, ◌||◌, Bool, not, nat_lt, min, List, map, filter, Option, is_some}
use Rattle.std.specs.List.{range_with_len, prefix_len}
use Rattle.base_122.specs.Sizes.{block_count}
use Rattle.base_122.specs.declared.geometry.Geometry.{Geometry}
use Rattle.stream_defs.specs.Begun.{height, block_rows}
use Rattle.quick_look.specs.declared.rect.Rect.{Rect}

-- ---- runs of missing blocks, where blocks are counted in raster order

-- a missing block at the start of its block row, or after one that isn't missing
abbrev pub begins_run : (columns : ℕ) → (lost : ℕ → Bool) → (block : ℕ) → Bool
begins_run columns lost block = lost block && ((block % columns == 0) || not (lost (block - 1)))

-- the number of consecutive missing blocks from this one on in its block row
abbrev pub run_length : (columns : ℕ) → (lost : ℕ → Bool) → (block : ℕ) → ℕ
run_length columns lost block = prefix_len lost (range_with_len block (columns - block % columns))

-- ---- their reach, in an image of a number of rows and columns of pixels

-- columns c to d of block row r reach rows 8 * r - 21 to 8 * r + 29 and columns 8 * c - 21 to 8 * d + 29, as far as the image has them
abbrev pub reach_of : (rows width r c d : ℕ) → Rect
reach_of rows width r c d = record {
  first_row = 8 * r - 21;
  last_row = min (8 * r + 29) (rows - 1);
  first_column = 8 * c - 21;
  last_column = min (8 * d + 29) (width - 1);
}

-- of the run that begins at a block
abbrev pub rect_from : (rows width : ℕ) → (lost : ℕ → Bool) → (block : ℕ) → Rect
rect_from rows width lost block =
    let columns = block_count width in
    reach_of rows width (block / columns) (block % columns) (block % columns + run_length columns lost block - 1)

-- it begins within the image
abbrev pub has_pixels : (rows width : ℕ) → Rect → Bool
has_pixels rows width rect = nat_lt rect.first_row rows && nat_lt rect.first_column width

-- a rectangle for each run that begins in the first n blocks, without those that have no pixel
unfoldable pub rects_before : (rows width n : ℕ) → (lost : ℕ → Bool) → List Rect
rects_before rows width n lost =
    filter (has_pixels rows width) (map (rect_from rows width lost) (filter (begins_run (block_count width) lost) (range_with_len 0 n)))

-- those of the first block rows
abbrev pub rects_of : (rows width block_rows : ℕ) → (lost : ℕ → Bool) → List Rect
rects_of rows width block_rows lost = rects_before rows width (block_rows * block_count width) lost

-- ---- of received segments

-- a block is in no received segment
abbrev pub is_lost : Geometry → (ℕ → Option (List (List ℤ))) → (block : ℕ) → Bool
is_lost g received block = not (is_some (received (block / g.segment)))

-- the rectangles if the kept heads reach n block rows
abbrev pub rects : Geometry → (ℕ → Option (List (List ℤ))) → (n : ℕ) → List Rect
rects g received n = rects_of (height g n) g.width (block_rows g n) (is_lost g received)
