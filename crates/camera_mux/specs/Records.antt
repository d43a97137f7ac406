-- The records of a mux: each is a camera's number and the octets of that camera's next row. This project's own.
use Rattle.std.specs.Prelude.{◌≡◌, ◌<◌, ℕ, ◌==◌, false, List, [], ◌∷◌, length, take, filter, slice_index_or}
use Rattle.std.specs.List.{flat_map}
use Rattle.base_122.specs.declared.setting.Select.TheVariants.{Heuristic}
use Rattle.base_122.specs.declared.setting.Setting.{Setting}
use Rattle.raster_rows.specs.Pixels.{whole_pixels}
use Rattle.raster_rows.specs.RowReads.{FirstInRange}
use Rattle.strip_coder.specs.Rasters.{row_length}

pub record CameraRow : Type 0 where
  pub camera : ℕ
  pub row : List ℕ

-- a placeholder for a setting, on which there is no condition
abbrev pub no_setting : Setting
no_setting = record {
  width = 0;
  rows = 0;
  depth = 0;
  signed = false;
  segment = 0;
  limit = 0;
  fill = false;
  word = 0;
  stop = record { dc = false; plane = 0; stage = 0 };
  weights = record { shifts = [] };
  select = Heuristic;
  apid = 0;
  image = 0;
  packet = 0;
  total = 0;
  book = record { codes = [] };
}

-- the setting of a camera
abbrev pub setting_at : List Setting → (camera : ℕ) → Setting
setting_at settings camera = slice_index_or settings camera no_setting

-- the record of a number
abbrev pub record_at : List CameraRow → (number : ℕ) → CameraRow
record_at records number = slice_index_or records number (record { camera = 0; row = [] })

-- the octets of records, one after another
abbrev pub octets_of : List CameraRow → List ℕ
octets_of records = flat_map (λ r. r.camera ∷ r.row) records

-- ---- one camera

-- its records, in order
abbrev pub records_of : (camera : ℕ) → List CameraRow → List CameraRow
records_of camera records = filter (λ r. r.camera == camera) records

-- the number of its rows
abbrev pub count_of : (camera : ℕ) → List CameraRow → ℕ
count_of camera records = length (records_of camera records)

-- the octets of its raster so far
abbrev pub raster_of : (camera : ℕ) → List CameraRow → List ℕ
raster_of camera records = flat_map (λ r. r.row) (records_of camera records)

-- ---- which records are accepted

-- A record can follow others: it has a camera that doesn't have all its rows, and a whole row with pixels in range.
pub record CanFollow (settings : List Setting) (records : List CameraRow) (r : CameraRow) : Type 0 where
  pub known : r.camera < length settings
  pub misses : count_of r.camera records < (setting_at settings r.camera).rows
  pub whole : length r.row ≡ row_length (setting_at settings r.camera)
  pub in_range : FirstInRange (setting_at settings r.camera).depth (setting_at settings r.camera).signed r.row (setting_at settings r.camera).width

-- each record can follow those before it
pub record AreAccepted (settings : List Setting) (records : List CameraRow) : Type 0 where
  pub each : (i : ℕ) → i < length records → CanFollow settings (take i records) (record_at records i)

-- each camera has all its rows
pub record AreFull (settings : List Setting) (records : List CameraRow) : Type 0 where
  pub each : (camera : ℕ) → camera < length settings → count_of camera records ≡ (setting_at settings camera).rows

-- ---- which octets can follow

-- a camera has rows left
pub record IsAwaited (settings : List Setting) (records : List CameraRow) (camera : ℕ) : Type 0 where
  pub known : camera < length settings
  pub misses : count_of camera records < (setting_at settings camera).rows

-- These octets are a part of a record that can follow: less than all of it, and nothing in it is refused.
abbrev pub IsPart : List Setting → List CameraRow → List ℕ → Type 0
IsPart settings records [] = Unit {0}
IsPart settings records (camera ∷ got) =
    let s = setting_at settings camera in
    IsAwaited settings records camera × (length got < row_length s) × FirstInRange s.depth s.signed got (whole_pixels s.depth got)
