-- The result if a whole raster is encoded. This project's own.
use Rattle.std.specs.Prelude.{◌≡◌, ◌<◌, ◌*◌, ◌==◌, ◌&&◌, ◌++◌, ℕ, ℤ, List, length, take, drop, Option, Some, Result, Ok, Err, ⊤, if◌then◌else◌}
use Rattle.port_122.specs.Outside.{Outside}
use Rattle.base_122.specs.Ranges.{IsInRange, IsWithin, is_within, width_range, rows_range, first_out_of_range}
use Rattle.base_122.specs.declared.field.Field.{Field}
use Rattle.base_122.specs.declared.field.Field.TheVariants.{Rows}
use Rattle.base_122.specs.declared.setting.Setting.{Setting}
use Rattle.stream_defs.specs.Output.{output}
use Rattle.strip_coder.specs.declared.encode.EncodeDone.{EncodeDone}
use Rattle.strip_coder.specs.declared.encode.EncodeFault.TheVariants as faults
use Rattle.strip_coder.specs.Answers.{EncodesImage, AllInRange, DoneFor, TookRaster, FirstBad}
use Rattle.strip_coder.specs.Rasters.{image_of, row_length}
use Rattle.strip_decoder.specs.Images.{IsImageFor}
use Rattle.strip122_c.specs.declared.encode.EncodeRefusal.{EncodeRefusal}
use Rattle.strip122_c.specs.declared.encode.EncodeRefusal.TheVariants.{OutOfRange, Short, Long, BadPixel, SmallRoom, Memory}

-- ---- the setting

-- Each field is in its range, and the image's height is known.
pub record IsAdmitted (s : Setting) : Type 0 where
  pub range : IsInRange s
  pub height : IsWithin rows_range s.rows

-- the first field that is refused: rows that are left open, or the first field out of range
abbrev pub first_refused : Setting → Option Field
first_refused s = if (s.rows == 0) && is_within width_range s.width then Some Rows else first_out_of_range s

-- octets of a raster
abbrev pub raster_length : Setting → ℕ
raster_length s = s.rows * row_length s

-- ---- a run over a port

-- the encoder's own result: one of these, on a port that never fails
abbrev pub HasRun : Setting → (old new : Outside) → Result EncodeDone EncodeRefusal → Type 0
HasRun s old new (Ok done) = EncodesImage s old new (Ok done)
HasRun s old new (Err Short) = (octets : ℕ) × EncodesImage s old new (Err (faults.Short octets))
HasRun s old new (Err Long) = EncodesImage s old new (Err faults.Long)
HasRun s old new (Err (BadPixel row column value)) = EncodesImage s old new (Err (faults.BadPixel row column value))
HasRun s old new (Err Memory) = ⊤
HasRun s old new (Err other) = ⊥

-- ---- the whole raster

-- The raster was whole and in range. The room begins with all packets of its image, and the rest of the room is unchanged.
pub record HasPackets (s : Setting) (raster old new : List ℕ) (done : EncodeDone) : Type 0 where
  pub took : TookRaster s s.rows raster
  pub image : IsImageFor s s.rows (image_of s raster)
  pub done_for : DoneFor s s.rows (image_of s raster) done
  pub room : new ≡ output s s.rows (image_of s raster) ++ drop done.octets old

-- the first value out of range, at a row and a column of the image
pub record HasBadPixel (s : Setting) (raster : List ℕ) (row column : ℕ) (value : ℤ) : Type 0 where
  pub admitted : IsAdmitted s
  pub inside : row < s.rows
  pub bad : FirstBad s raster row column value

-- the cause of a refusal, by the number of octets of the room
abbrev pub IsRefused : Setting → (raster : List ℕ) → (room : ℕ) → EncodeRefusal → Type 0
IsRefused s raster room (OutOfRange field) = first_refused s ≡ Some field
IsRefused s raster room Short = IsAdmitted s × (length raster < raster_length s) × AllInRange s raster
IsRefused s raster room Long = IsAdmitted s × (raster_length s < length raster) × TookRaster s s.rows (take (raster_length s) raster)
IsRefused s raster room (BadPixel row column value) = HasBadPixel s raster row column value
IsRefused s raster room (SmallRoom octets) = IsAdmitted s × TookRaster s s.rows raster × (octets ≡ length (output s s.rows (image_of s raster)))
    × (room < octets)
IsRefused s raster room Memory = ⊤

-- The result and its cause. A refusal leaves the room unchanged.
abbrev pub Encodes : Setting → (raster old new : List ℕ) → Result EncodeDone EncodeRefusal → Type 0
Encodes s raster old new (Ok done) = HasPackets s raster old new done
Encodes s raster old new (Err refusal) = (new ≡ old) × IsRefused s raster (length old) refusal

-- the raster was encoded, or the room is too small, or there is no memory
abbrev pub Accepts : Result EncodeDone EncodeRefusal → Type 0
Accepts (Ok done) = ⊤
Accepts (Err (SmallRoom octets)) = ⊤
Accepts (Err Memory) = ⊤
Accepts (Err other) = ⊥
