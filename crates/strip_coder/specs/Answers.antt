-- How an encoder ends, by what it took and gave.
use Rattle.std.specs.Prelude.{◌≡◌, ◌≢◌, ◌⊎◌, ◌<◌, ◌≤◌, ◌+◌, ◌*◌, ℕ, ℤ, List, [], length, take, Result, Ok, Err}
use Rattle.port_122.specs.Outside.{Outside, Exchange, GivenBy, AtEnd, Rose}
use Rattle.base_122.specs.Setting.{IsHeight, sized}
use Rattle.base_122.specs.declared.setting.Setting.{Setting}
use Rattle.wave_defs.specs.Held.{SameWithin}
use Rattle.raster_rows.specs.Pixels.{whole_pixels}
use Rattle.raster_rows.specs.RowReads.{IsFirstBad}
use Rattle.stream_defs.specs.Output.{output, image_blocks, image_packets, segments_of, reports_last, used_before}
use Rattle.strip_coder.specs.declared.encode.EncodeDone.{EncodeDone}
use Rattle.strip_coder.specs.declared.encode.EncodeFault.{EncodeFault}
use Rattle.strip_coder.specs.declared.encode.EncodeFault.TheVariants.{ReadFault, WriteFault, Short, Long, BadPixel}
use Rattle.strip_coder.specs.Rasters.{row_length, most_length, LacksRows, image_of, AreInRange, settled_octets, given_for}
use Rattle.strip_coder.specs.Plans.{tallest}

-- every whole pixel that was taken is in range
abbrev pub AllInRange : Setting → List ℕ → Type 0
AllInRange s taken = AreInRange s taken (whole_pixels s.depth taken)

-- a read call with i of these octets taken: at most those of the longest raster, and all whole pixels of them are in range
abbrev pub AsksInRange : Setting → List ℕ → ℕ → ℕ → Type 0
AsksInRange s took i j = (i ≤ most_length s) × AllInRange s (take i took)

-- the first value out of range is the one at this row and column
pub record FirstBad (s : Setting) (taken : List ℕ) (row column : ℕ) (value : ℤ) : Type 0 where
  pub in_row : column < s.width
  pub first : IsFirstBad s.depth s.signed taken (row * s.width + column) value

-- the whole raster of an image with this number of rows was taken, and the image is in range
pub record TookRaster (s : Setting) (rows : ℕ) (taken : List ℕ) : Type 0 where
  pub height : IsHeight s rows
  pub whole : length taken ≡ rows * row_length s
  pub in_range : AllInRange s taken

-- octets of all coded segments of an image
abbrev pub coded_octets : Setting → (rows : ℕ) → (ℕ → ℕ → ℤ) → ℕ
coded_octets s rows x = used_before (sized s rows) (image_blocks (sized s rows) x) (segments_of (sized s rows))

-- what was done for an image; its coded segments have at most the octets of a total
pub record DoneFor (s : Setting) (rows : ℕ) (x : ℕ → ℕ → ℤ) (done : EncodeDone) : Type 0 where
  pub segments : done.segments ≡ segments_of (sized s rows)
  pub packets : done.packets ≡ length (image_packets (reports_last s) (sized s rows) x)
  pub octets : done.octets ≡ length (output s rows x)
  pub total : s.total ≢ 0 → coded_octets s rows x ≤ s.total

-- exactly the first k rows of the raster were taken, and each value is in range
pub record TookRows (s : Setting) (taken : List ℕ) (k : ℕ) : Type 0 where
  pub whole : length taken ≡ k * row_length s
  pub most : k ≤ tallest s
  pub in_range : AllInRange s taken

-- these octets are a prefix of all packets of each image that begins with the first k rows of the raster
pub record IsPrefixOfEach (s : Setting) (taken : List ℕ) (k : ℕ) (gave : List ℕ) : Type 0 where
  pub each : (rows : ℕ) (x : ℕ → ℕ → ℤ) → IsHeight s rows → k ≤ rows → SameWithin k s.width (image_of s taken) x → (n : ℕ) × (gave ≡ take n (output s rows x))

-- or, if the rows were open and the end was read, of the image of exactly these rows
pub record IsPrefixOfWhole (s : Setting) (new : Outside) (taken : List ℕ) (k : ℕ) (gave : List ℕ) : Type 0 where
  pub left_open : s.rows ≡ 0
  pub at_end : AtEnd new
  pub height : IsHeight s k
  pub some : ℕ
  pub prefix : gave ≡ take some (output s k (image_of s taken))

-- Why the call ended so. The answers exclude each other by what was taken, the end and the counts, so each is given exactly if its case
-- holds, except for faults of the port. The row of a bad pixel is the number of whole rows in range before it.
abbrev pub Answers : Setting → Outside → Outside → List ℕ → List ℕ → Result EncodeDone EncodeFault → Type 0
Answers s old new took gave (Ok done) =
    (rows : ℕ) × TookRaster s rows took × AtEnd new × (gave ≡ output s rows (image_of s took)) × DoneFor s rows (image_of s took) done
Answers s old new took gave (Err (Short octets)) =
    (octets ≡ length took) × LacksRows s (length took) × AtEnd new × AllInRange s took × (gave ≡ given_for s took)
Answers s old new took gave (Err Long) =
    (length took ≡ most_length s + 1) × AllInRange s (take (most_length s) took) × (gave ≡ given_for s took)
    × (s.rows ≢ 0 → gave ≡ output s s.rows (image_of s (take (most_length s) took)))
Answers s old new took gave (Err (BadPixel row column value)) =
    (length took ≤ most_length s) × FirstBad s took row column value × (gave ≡ settled_octets s took row)
Answers s old new took gave (Err ReadFault) =
    Rose old.read_faults new.read_faults × (length took ≤ most_length s) × AllInRange s took × (gave ≡ given_for s took)
Answers s old new took gave (Err WriteFault) =
    Rose old.write_faults new.write_faults × ((k : ℕ) × TookRows s took k × (IsPrefixOfEach s took k gave ⊎ IsPrefixOfWhole s new took k gave))

-- One run over a port: what it took and gave, when, and why it ended so. At each read call the packets of the segments that were
-- settled by then are given, and nothing else. At most the octets of the longest raster are taken by then, and all whole pixels of them
-- are in range.
pub record EncodesImage (s : Setting) (old new : Outside) (result : Result EncodeDone EncodeFault) : Type 0 where
  pub took : List ℕ
  pub gave : List ℕ
  pub since : Exchange old new took gave [] (GivenBy (given_for s) took)
  pub asks : Exchange old new took gave [] (AsksInRange s took)
  pub answer : Answers s old new took gave result
