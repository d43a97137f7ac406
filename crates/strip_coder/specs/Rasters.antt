-- The raster that an encoder takes, and what it gives for it.
use Rattle.std.specs.Prelude.{◌≡◌, ◌≢◌, ◌<◌, ◌⊎◌, ◌*◌, ◌/◌, ◌%◌, ℕ, ℤ, List, length, min}
use Rattle.base_122.specs.Ranges.{rows_range}
use Rattle.base_122.specs.declared.setting.Setting.{Setting}
use Rattle.packet_defs.specs.Packets.{joined}
use Rattle.raster_rows.specs.Pixels.{pixel_size, raster_pixel}
use Rattle.raster_rows.specs.RowReads.{FirstInRange}
use Rattle.stream_defs.specs.SettledImages.{leading_packets, settled_in}
use Rattle.strip_coder.specs.Plans.{tallest}

-- octets of a row, and of the longest raster of a setting
abbrev pub row_length : Setting → ℕ
row_length s = s.width * pixel_size s.depth

abbrev pub most_length : Setting → ℕ
most_length s = tallest s * row_length s

-- A raster of this number of octets isn't whole, and may continue: it has fewer than the longest. If the rows are reported last, it ends
-- inside a row, or has fewer rows than an image.
pub record LacksRows (s : Setting) (octets : ℕ) : Type 0 where
  pub fewer : octets < most_length s
  pub left_open : s.rows ≡ 0 → (octets < rows_range.least * row_length s) ⊎ (octets % row_length s ≢ 0)

-- the image of the octets of a raster
abbrev pub image_of : Setting → List ℕ → ℕ → ℕ → ℤ
image_of s octets = raster_pixel s.depth s.signed s.width octets

-- the first n pixels of these octets are in range
abbrev pub AreInRange : Setting → List ℕ → ℕ → Type 0
AreInRange s octets n = FirstInRange s.depth s.signed octets n

-- the packets of the segments that the first k rows of a raster settle, whatever rows follow
unfoldable pub settled_octets : Setting → (taken : List ℕ) → (k : ℕ) → List ℕ
settled_octets s taken k = joined (leading_packets s (tallest s) (image_of s taken) (settled_in s (tallest s) k))

-- the whole rows of a raster that these octets begin with
abbrev pub whole_rows : Setting → List ℕ → ℕ
whole_rows s taken = min (tallest s) (length taken / row_length s)

-- what is given once these octets are taken: the packets of the segments that the whole rows settle
unfoldable pub given_for : Setting → List ℕ → List ℕ
given_for s taken = settled_octets s taken (whole_rows s taken)
