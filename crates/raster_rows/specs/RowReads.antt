-- A row of a raster that is read. This project's own.
use Rattle.std.specs.Prelude.{◌≡◌, ◌<◌, ◌≤◌, ◌*◌, ℕ, ℤ, pos, Bool, List, [], length, take, slice_index_or, Result, Ok, Err}
use Rattle.port_122.specs.Outside.{Outside, Exchange, AtEnd, Rose}
use Rattle.raster_rows.specs.declared.reading.RowFault.{RowFault}
use Rattle.raster_rows.specs.declared.reading.RowFault.TheVariants.{ReadFault, Short, BadPixel}
use Rattle.raster_rows.specs.Pixels.{IsPixel, pixel_size, pixel_at, whole_pixels}

-- the first n numbers of a row are the first n pixels of these octets, and its others are as before
pub record BeginsWith (depth : ℕ) (signed : Bool) (octets : List ℕ) (n : ℕ) (before after : List ℤ) : Type 0 where
  pub first : (k : ℕ) → k < n → slice_index_or after k (pos 0) ≡ pixel_at depth signed octets k
  pub others : (k : ℕ) → n ≤ k → slice_index_or after k (pos 0) ≡ slice_index_or before k (pos 0)
  pub same : length after ≡ length before

-- the first n pixels of these octets are in range
pub record FirstInRange (depth : ℕ) (signed : Bool) (octets : List ℕ) (n : ℕ) : Type 0 where
  pub each : (k : ℕ) → k < n → IsPixel depth signed (pixel_at depth signed octets k)

-- the pixel at a column of these octets is the first that is out of range
pub record IsFirstBad (depth : ℕ) (signed : Bool) (octets : List ℕ) (column : ℕ) (value : ℤ) : Type 0 where
  pub whole : column < whole_pixels depth octets
  pub value_is : value ≡ pixel_at depth signed octets column
  pub bad : ¬ IsPixel depth signed value
  pub earlier : FirstInRange depth signed octets column

-- a read call before all of the row's octets are taken, with nothing given and all whole pixels so far in range
abbrev pub InRow : ℕ → Bool → ℕ → List ℕ → ℕ → ℕ → Type 0
InRow depth signed width took i j =
    (i < width * pixel_size depth) × (j ≡ 0) × FirstInRange depth signed (take i took) (whole_pixels depth (take i took))

-- a row was not read to its end: all whole pixels that were taken are in range and are in the row
pub record Unfinished (depth : ℕ) (signed : Bool) (width : ℕ) (took : List ℕ) (before after : List ℤ) : Type 0 where
  pub inside : length took < width * pixel_size depth
  pub in_range : FirstInRange depth signed took (whole_pixels depth took)
  pub begins : BeginsWith depth signed took (whole_pixels depth took) before after

-- why this was the answer, by the octets taken
abbrev pub RowAnswers : {T : Type 0} → ℕ → Bool → ℕ → ℕ → Outside → Outside → List ℕ → List ℤ → List ℤ → Result T RowFault → Type 0
RowAnswers depth signed width row old new took before after (Ok done) =
    (length took ≡ width * pixel_size depth) × FirstInRange depth signed took width × BeginsWith depth signed took width before after
RowAnswers depth signed width row old new took before after (Err ReadFault) =
    Rose old.read_faults new.read_faults × Unfinished depth signed width took before after
RowAnswers depth signed width row old new took before after (Err (Short octets)) =
    (octets ≡ length took) × AtEnd new × Unfinished depth signed width took before after
RowAnswers depth signed width row old new took before after (Err (BadPixel at column value)) =
    (at ≡ row) × (length took ≤ width * pixel_size depth) × IsFirstBad depth signed took column value × BeginsWith depth signed took column before after

-- One row: the octets that were taken, what held at each read call, and why this was the answer.
pub record RowRead {T : Type 0} (depth : ℕ) (signed : Bool) (width row : ℕ) (old new : Outside) (before after : List ℤ) (result : Result T RowFault) : Type
    0 where
  pub took : List ℕ
  pub since : Exchange old new took [] [] (InRow depth signed width took)
  pub answer : RowAnswers depth signed width row old new took before after result
