-- An image, some of its packets, and what is received of them. This project's own.
use Rattle.std.specs.Prelude.{◌≡◌, ◌*◌, ◌/◌, ℕ, ℤ, List, [], ◌∷◌, ◌<◌, ◌-◌, length, zero, suc, Bool, true, false, if◌then◌else◌, None, Some, is_some}
use Rattle.std.specs.Prelude.{IsTrue, ◌&&◌, not, ◌↔◌}
use Rattle.base_122.specs.Ranges.{IsInRange}
use Rattle.base_122.specs.Setting.{image_geometry, sized, IsHeight}
use Rattle.base_122.specs.Sizes.{block_count}
use Rattle.base_122.specs.declared.geometry.Geometry.{Geometry}
use Rattle.base_122.specs.declared.setting.Setting.{Setting}
use Rattle.packet_defs.specs.Packets.{joined}
use Rattle.packet_defs.specs.Streams.{framing}
use Rattle.plane_defs.specs.Codes.{is_book_sound}
use Rattle.raster_rows.specs.Pixels.{IsPixel}
use Rattle.segment_defs.specs.TextWish.{TextWish}
use Rattle.stream_defs.specs.Begun.{block_rows}
use Rattle.stream_defs.specs.Chosen.{IsChoice, chosen, all_parts}
use Rattle.stream_defs.specs.Damage.{whole_missing}
use Rattle.stream_defs.specs.Fates.{geometry_in}
use Rattle.stream_defs.specs.Output.{image_blocks, segments_of, output, reports_last}
use Rattle.stream_defs.specs.Picture.{number_at}
use Rattle.strip_decoder.specs.Runs.{Numbers}

-- The blocks of received segments have the numbers that were received, and all other blocks have any numbers. If the height isn't known and
-- the kept heads reach n block rows, the blocks of later block rows also have any numbers.
pub record AreWith (g : Geometry) (received : Numbers) (numbers : ℕ → ℕ → ℤ) (n : ℕ) : Type 0 where
  pub at : (block i : ℕ) → block < block_rows g n * block_count g.width → i < 64 → is_some (received (block / g.segment)) ≡ true →
      numbers block i ≡ number_at g received block i

-- how texts with this setting's book are read
abbrev pub texts_for : Setting → (restore : Bool) → TextWish
texts_for s restore = record { book = s.book; restore = restore }

-- the octets of some packets, in order, of an image with this number of rows
abbrev pub some_output : Setting → (rows : ℕ) → (ℕ → ℕ → ℤ) → (parts : ℕ → List ℕ) → List ℕ
some_output s rows x parts = joined (chosen (reports_last s) (sized s rows) (image_blocks (sized s rows) x) parts (segments_of (sized s rows)))

-- a packet among them begins a segment
pub record BeginsOne (s : Setting) (rows : ℕ) (parts : ℕ → List ℕ) : Type 0 where
  pub index : ℕ
  pub within : index < segments_of (sized s rows)
  pub more : List ℕ
  pub begins : parts index ≡ 0 ∷ more

-- these parts of a segment begin it
abbrev pub is_begun : List ℕ → Bool
is_begun [] = false
is_begun (zero ∷ ks) = true
is_begun (suc k ∷ ks) = false

-- the rows that these packets report: none if the height is reported last and the last segment isn't begun, else those of the image
abbrev pub reported_rows : Setting → (rows : ℕ) → (parts : ℕ → List ℕ) → ℕ
reported_rows s rows parts = if reports_last s && not (is_begun (parts (segments_of (sized s rows) - 1))) then 0 else rows

-- the geometry that they report, if one of them begins a segment
abbrev pub reported : Setting → (rows : ℕ) → (parts : ℕ → List ℕ) → Geometry
reported s rows parts = image_geometry s (reported_rows s rows parts)

-- the pixels of an image of this setting, with this number of rows, are in their range
pub record ArePixels (s : Setting) (rows : ℕ) (x : ℕ → ℕ → ℤ) : Type 0 where
  pub at : (i j : ℕ) → i < rows → j < s.width → IsPixel s.depth s.signed (x i j)

-- an image of a height that this setting admits, whose book is sound, and whose ten weights, other fields and pixels are in range
pub record IsImageFor (s : Setting) (rows : ℕ) (x : ℕ → ℕ → ℤ) : Type 0 where
  pub range : IsInRange s
  pub sound : IsTrue (is_book_sound s.book)
  pub height : IsHeight s rows
  pub weights : length s.weights.shifts ≡ 10
  pub pixels : ArePixels s rows x

-- some packets of such an image
pub record AreSome (s : Setting) (rows : ℕ) (x : ℕ → ℕ → ℤ) (parts : ℕ → List ℕ) : Type 0 where
  pub image : IsImageFor s rows x
  pub choice : IsChoice (sized s rows) (image_blocks (sized s rows) x) parts

-- Of the segments of an image exactly those are received whose packets are all among these.
pub record ReceivesThose (s : Setting) (rows : ℕ) (x : ℕ → ℕ → ℤ) (parts : ℕ → List ℕ) (received : Numbers) : Type 0 where
  pub at : (index : ℕ) → index < segments_of (sized s rows) →
      (is_some (received index) ≡ true) ↔ (parts index ≡ all_parts (sized s rows) (image_blocks (sized s rows) x) index)

-- nothing is omitted: the stop is the last stage of plane 0, and there is neither a limit nor a total
pub record SendsAll (s : Setting) : Type 0 where
  pub goes_on : s.stop.dc ≡ false
  pub plane : s.stop.plane ≡ 0
  pub stage : s.stop.stage ≡ 3
  pub limit : s.limit ≡ 0
  pub total : s.total ≡ 0

-- its packets report its size, each block row is received, and they can be read to their end
pub record ArrivesWhole (s : Setting) (rows : ℕ) (x : ℕ → ℕ → ℤ) (received : Numbers) : Type 0 where
  pub geometry : geometry_in s.apid (output s rows x) ≡ Some (image_geometry s rows)
  pub missing : whole_missing (image_geometry s rows) received ≡ []
  pub framing_is : framing (output s rows x) ≡ None
