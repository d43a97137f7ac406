-- Pixels that are put into a row, piece by piece. This project's own.
use Rattle.std.specs.Prelude.{◌≡◌, ◌<◌, ◌≤◌, ◌+◌, ℕ, ℤ, pos, Bool, false, List, length, slice_index_or}
use Rattle.raster_rows.specs.Pixels.{IsPixel, pixel_at}

-- the first n pixels of these octets are in range and are in a row from a column on, and its others are as before
pub record PixelsPut (depth : ℕ) (signed : Bool) (octets : List ℕ) (column n : ℕ) (before after : List ℤ) : Type 0 where
  pub in_range : (k : ℕ) → k < n → IsPixel depth signed (pixel_at depth signed octets k)
  pub put : (k : ℕ) → k < n → slice_index_or after (column + k) (pos 0) ≡ pixel_at depth signed octets k
  pub below : (k : ℕ) → k < column → slice_index_or after k (pos 0) ≡ slice_index_or before k (pos 0)
  pub above : (k : ℕ) → column + n ≤ k → slice_index_or after k (pos 0) ≡ slice_index_or before k (pos 0)
  pub same : length after ≡ length before

-- the pixel at a place is the first out of range, and those before it were put
pub record FirstOut (depth : ℕ) (signed : Bool) (octets : List ℕ) (column n place : ℕ) (value : ℤ) (before after : List ℤ) : Type 0 where
  pub within : place < n
  pub value_is : value ≡ pixel_at depth signed octets place
  pub bad : ¬ IsPixel depth signed value
  pub earlier : PixelsPut depth signed octets column place before after

-- these values are all pixels, and pixels have no sign
pub record ArePlain (depth : ℕ) (signed : Bool) (values : List ℤ) : Type 0 where
  pub plain : signed ≡ false
  pub each : (k : ℕ) → k < length values → IsPixel depth signed (slice_index_or values k (pos 0))
