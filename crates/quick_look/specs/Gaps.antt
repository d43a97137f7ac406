-- Missing blocks as gaps, and the rectangles of a gap. This project's own.
use Rattle.std.specs.Prelude.{◌≡◌, ◌≤◌, ◌<◌, ◌+◌, ◌-◌, ◌*◌, ◌/◌, ℕ, Bool, true, false, ◌&&◌, nat_lt, max, min, List, [], ◌∷◌, map, filter}
use Rattle.std.specs.List.{range_with_len, flat_map}
use Rattle.base_122.specs.Sizes.{block_count}
use Rattle.quick_look.specs.declared.gap.Gap.{Gap}
use Rattle.quick_look.specs.declared.rect.Rect.{Rect}
use Rattle.quick_look.specs.Rects.{has_pixels, reach_of, rects_of}

-- ---- gaps

-- from block a on and before block e, all blocks are missing, or none is
pub record AreAll (lost : ℕ → Bool) (value : Bool) (a e : ℕ) : Type 0 where
  pub at : (block : ℕ) → a ≤ block → block < e → lost block ≡ value

-- the first gap from block a on; a block follows it that isn't missing
pub record IsNextGap (lost : ℕ → Bool) (a : ℕ) (gap : Gap) : Type 0 where
  pub low : a ≤ gap.first
  pub order : gap.first ≤ gap.last
  pub before : AreAll lost false a gap.first
  pub missing : AreAll lost true gap.first (gap.last + 1)
  pub ends : lost (gap.last + 1) ≡ false

-- the gaps from block a on and before block e, in rising order, each with the block that follows it
abbrev pub AreGaps : (lost : ℕ → Bool) → (a : ℕ) → List Gap → (e : ℕ) → Type 0
AreGaps lost a [] e = (a ≤ e) × AreAll lost false a e
AreGaps lost a (gap ∷ gaps) e = IsNextGap lost a gap × AreGaps lost (gap.last + 2) gaps e

-- the missing blocks of the first n
abbrev pub lost_below : (n : ℕ) → (ℕ → Bool) → ℕ → Bool
lost_below n lost block = nat_lt block n && lost block

-- ---- their rectangles, in an image of a number of rows and columns of pixels

-- the part of a gap in block row r
abbrev pub gap_rect : (rows width : ℕ) → Gap → (r : ℕ) → Rect
gap_rect rows width gap r =
    let columns = block_count width in
    reach_of rows width r (max gap.first (r * columns) - r * columns) (min gap.last (r * columns + columns - 1) - r * columns)

-- the block rows that have a part of it
abbrev pub gap_rows : (width : ℕ) → Gap → List ℕ
gap_rows width gap =
    let columns = block_count width in
    range_with_len (gap.first / columns) (gap.last / columns + 1 - gap.first / columns)

-- the rectangles of its parts, without those that have no pixel
abbrev pub gap_rects : (rows width : ℕ) → Gap → List Rect
gap_rects rows width gap = filter (has_pixels rows width) (map (gap_rect rows width gap) (gap_rows width gap))

-- The gaps of the first blocks give the rectangles of the missing blocks of the first block rows, if the blocks after these reach no row.
pub record GapsGiveRects : Type 0 where
  pub at : (rows width block_rows passed : ℕ) (lost : ℕ → Bool) (gaps : List Gap) → 0 < width → block_rows * block_count width ≤ passed →
      ((block : ℕ) → block_rows * block_count width ≤ block → block < passed → rows ≤ 8 * (block / block_count width) - 21) →
      AreGaps (lost_below passed lost) 0 gaps (passed + 1) → flat_map (gap_rects rows width) gaps ≡ rects_of rows width block_rows lost
