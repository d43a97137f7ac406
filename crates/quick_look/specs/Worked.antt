-- The rectangles of some missing blocks, worked out by hand.
use Rattle.std.specs.Prelude.{◌≡◌, ℕ, List, [], ◌∷◌, ◌/◌, ◌==◌, ◌||◌}
use Rattle.quick_look.specs.declared.rect.Rect.{Rect}
use Rattle.quick_look.specs.Rects.{rects_of}

abbrev pub rect : (first_row last_row first_column last_column : ℕ) → Rect
rect a b c d = record { first_row = a; last_row = b; first_column = c; last_column = d }

-- Of 128 rows of 64 pixels two block rows; of 48 rows of 256 pixels a segment of 16 blocks, and then single blocks; of 17 rows of 17 pixels
-- the block in the middle; and of no row a block.
abbrev pub WorkedRects : Type 0
WorkedRects =
    (rects_of 128 64 16 (λ b. b / 16 == 3) ≡ rect 27 77 0 63 ∷ rect 35 85 0 63 ∷ [])
    × (rects_of 48 256 6 (λ b. b / 16 == 1) ≡ rect 0 29 107 255 ∷ [])
    × (rects_of 48 256 6 (λ b. (b == 30) || (b / 2 == 16)) ≡ rect 0 29 219 255 ∷ rect 0 37 0 37 ∷ [])
    × (rects_of 17 17 3 (λ b. b == 4) ≡ rect 0 16 0 16 ∷ [])
    × (rects_of 0 17 1 (λ b. b == 0) ≡ [])
