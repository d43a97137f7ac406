-- What is given for the records of a mux, and what is done. This project's own.
use Rattle.std.specs.Prelude.{ℕ, ℤ, ◌+◌, ◌==◌, if◌then◌else◌, List, length, take, drop}
use Rattle.std.specs.List.{range_with_len, flat_map, sum_by}
use Rattle.base_122.specs.declared.setting.Setting.{Setting}
use Rattle.stream_defs.specs.Output.{image_packets, output, reports_last}
use Rattle.strip_coder.specs.Rasters.{image_of, settled_octets}
use Rattle.camera_mux.specs.Records.{CameraRow, setting_at, record_at, count_of, raster_of}

-- the packets of a camera's image that its rows among these records settle
abbrev pub settled_by : List Setting → (camera : ℕ) → List CameraRow → List ℕ
settled_by settings camera records = settled_octets (setting_at settings camera) (raster_of camera records) (count_of camera records)

-- those of the record's camera that the record of a number settles and the records before it don't
abbrev pub settled_at : List Setting → List CameraRow → (number : ℕ) → List ℕ
settled_at settings records number =
    let camera = (record_at records number).camera in
    drop (length (settled_by settings camera (take number records))) (settled_by settings camera (take (number + 1) records))

-- those of all records, one after another
unfoldable pub mux_out : List Setting → List CameraRow → List ℕ
mux_out settings records = flat_map (settled_at settings records) (range_with_len 0 (length records))

-- ---- how much it is

-- a measure of the image of a camera, if these records have all its rows
abbrev pub of_whole : (measure : Setting → (ℕ → ℕ → ℤ) → ℕ) → List Setting → (camera : ℕ) → List CameraRow → ℕ
of_whole measure settings camera records =
    let s = setting_at settings camera in
    if count_of camera records == s.rows then measure s (image_of s (raster_of camera records)) else 0

-- the sum of that for the images whose last row one of these records has
unfoldable pub sum_of : (measure : Setting → (ℕ → ℕ → ℤ) → ℕ) → List Setting → List CameraRow → ℕ
sum_of measure settings records = sum_by (λ number. of_whole measure settings (record_at records number).camera (take (number + 1) records))
    (range_with_len 0 (length records))

-- all packets of an image, and their octets
abbrev pub packets_in : Setting → (ℕ → ℕ → ℤ) → ℕ
packets_in s x = length (image_packets (reports_last s) s x)

abbrev pub octets_in : Setting → (ℕ → ℕ → ℤ) → ℕ
octets_in s x = length (output s s.rows x)
