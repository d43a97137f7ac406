-- How a mux ends, by what it took and gave. This project's own.
use Rattle.std.specs.Prelude.{◌≡◌, ◌≤◌, ◌-◌, ◌^◌, ℕ, ℤ, min, List, [], ◌∷◌, ◌++◌, length, take, Result, Ok, Err}
use Rattle.port_122.specs.Outside.{Outside, Exchange, AtEnd, Rose}
use Rattle.base_122.specs.declared.setting.Setting.{Setting}
use Rattle.raster_rows.specs.RowReads.{IsFirstBad}
use Rattle.strip_coder.specs.Rasters.{row_length}
use Rattle.camera_mux.specs.declared.mux.MuxDone.{MuxDone}
use Rattle.camera_mux.specs.declared.mux.MuxFault.{MuxFault}
use Rattle.camera_mux.specs.declared.mux.MuxFault.TheVariants.{ReadFault, WriteFault, Short, Long, BadCamera, BadPixel}
use Rattle.camera_mux.specs.Records.{CameraRow, setting_at, octets_of, count_of, AreAccepted, AreFull, IsAwaited, IsPart}
use Rattle.camera_mux.specs.MuxOut.{mux_out, sum_of, packets_in, octets_in}
use Rattle.camera_mux.specs.MuxProgress.{AsksMux}

-- the first pixel out of range is in the record that these octets begin
pub record HasBadPixel (settings : List Setting) (records : List CameraRow) (rest : List ℕ) (camera row column : ℕ) (value : ℤ) : Type 0 where
  pub awaited : IsAwaited settings records camera
  pub row_is : row ≡ count_of camera records
  pub got : List ℕ
  pub rest_is : rest ≡ camera ∷ got
  pub within : length got ≤ row_length (setting_at settings camera)
  pub bad : IsFirstBad (setting_at settings camera).depth (setting_at settings camera).signed got column value

-- A write failed at the last of these records: what the records before it settle was given, and a prefix of what it settles itself.
pub record IsCutAt (settings : List Setting) (records : List CameraRow) (gave : List ℕ) : Type 0 where
  pub before : List CameraRow
  pub last : CameraRow
  pub records_are : records ≡ before ++ last ∷ []
  pub part : List ℕ
  pub gave_is : gave ≡ mux_out settings before ++ part
  pub some : ℕ
  pub prefix : gave ≡ take some (mux_out settings records)

-- Why the call ended so, if these records were accepted and these octets were taken after them.
abbrev pub Answers : List Setting → (old new : Outside) → List CameraRow → (rest gave : List ℕ) → Result MuxDone MuxFault → Type 0
Answers settings old new records rest gave (Ok done) =
    AreFull settings records × (rest ≡ []) × AtEnd new × (gave ≡ mux_out settings records)
    × (done.packets ≡ min (sum_of packets_in settings records) (2 ^ 64 - 1)) × (done.octets ≡ min (sum_of octets_in settings records) (2 ^ 64 - 1))
Answers settings old new records rest gave (Err ReadFault) =
    Rose old.read_faults new.read_faults × IsPart settings records rest × (gave ≡ mux_out settings records)
Answers settings old new records rest gave (Err WriteFault) = Rose old.write_faults new.write_faults × (rest ≡ []) × IsCutAt settings records gave
Answers settings old new records rest gave (Err (Short octets)) =
    (octets ≡ length (octets_of records ++ rest)) × (AreFull settings records → ⊥) × AtEnd new × IsPart settings records rest
    × (gave ≡ mux_out settings records)
Answers settings old new records rest gave (Err Long) = AreFull settings records × (length rest ≡ 1) × (gave ≡ mux_out settings records)
Answers settings old new records rest gave (Err (BadCamera place camera)) =
    (place ≡ length records) × (AreFull settings records → ⊥) × (rest ≡ camera ∷ []) × (IsAwaited settings records camera → ⊥)
    × (gave ≡ mux_out settings records)
Answers settings old new records rest gave (Err (BadPixel camera row column value)) = HasBadPixel settings records rest camera row column value
    × (gave ≡ mux_out settings records)

-- One run over a port: the records that it accepted, what it took after them, what it gave, when, and why it ended so. At each read
-- call exactly the packets are given that the whole records in the octets taken by then settle, and none of these octets is refused.
pub record Muxes (settings : List Setting) (old new : Outside) (result : Result MuxDone MuxFault) : Type 0 where
  pub records : List CameraRow
  pub rest : List ℕ
  pub gave : List ℕ
  pub accepted : AreAccepted settings records
  pub since : Exchange old new (octets_of records ++ rest) gave [] (AsksMux settings records (octets_of records ++ rest))
  pub answer : Answers settings old new records rest gave result
