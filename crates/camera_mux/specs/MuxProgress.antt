-- The progress of a mux since it began. This project's own.
use Rattle.std.specs.Prelude.{◌≡◌, ◌≢◌, ◌<◌, ◌≤◌, ◌+◌, ◌-◌, ◌*◌, ◌^◌, ℕ, min, sum, List, [], ◌∷◌, ◌++◌, length, take, slice_index, slice_index_or, slice_set}
use Rattle.std.specs.Prelude.{Option, None, Some}
use Rattle.port_122.specs.Outside.{Outside, Exchange, AtStart, AtEnd}
use Rattle.base_122.specs.Ranges.{IsInRange}
use Rattle.base_122.specs.declared.setting.Setting.{Setting}
use Rattle.strip_coder.specs.declared.work.Work.{Work}
use Rattle.strip_coder.specs.Rasters.{row_length, image_of}
use Rattle.strip_coder.specs.Works.{IsMadeFor, Represents}
use Rattle.camera_mux.specs.declared.mux.MuxDone.{MuxDone}
use Rattle.camera_mux.specs.declared.muxing.Progress.{Progress}
use Rattle.camera_mux.specs.Records.{CameraRow, setting_at, octets_of, count_of, raster_of, AreAccepted, IsPart}
use Rattle.camera_mux.specs.MuxOut.{mux_out, sum_of, packets_in, octets_in}

-- one to 16 settings in range whose rows are known, with different APIDs
pub record AreSettings (settings : List Setting) : Type 0 where
  pub some : 1 ≤ length settings
  pub few : length settings ≤ 16
  pub in_range : (camera : ℕ) → camera < length settings → IsInRange (setting_at settings camera)
  pub known : (camera : ℕ) → camera < length settings → (setting_at settings camera).rows ≢ 0
  pub apart : (camera other : ℕ) → camera < other → other < length settings → (setting_at settings camera).apid ≢ (setting_at settings other).apid

-- and a work that was made for each
pub record CanMux (settings : List Setting) (works : List Work) : Type 0 where
  pub cameras : AreSettings settings
  pub same : length works ≡ length settings
  pub made : (camera : ℕ) (d : Work) → camera < length settings → IsMadeFor (setting_at settings camera) (slice_index_or works camera d)

-- A read call with i of these octets taken and j given. The octets taken are the first n records and a part of a record that can follow
-- them; exactly what these records settle is given.
pub record AsksMux (settings : List Setting) (records : List CameraRow) (took : List ℕ) (i j : ℕ) : Type 0 where
  pub n : ℕ
  pub most : n ≤ length records
  pub part : List ℕ
  pub taken : take i took ≡ octets_of (take n records) ++ part
  pub follows : IsPart settings (take n records) part
  pub given : j ≡ length (mux_out settings (take n records))

-- a work is ready for the next row of its camera's image, after k rows of a raster
pub record IsReady (s : Setting) (k : ℕ) (raster : List ℕ) (w : Work) : Type 0 where
  pub made : IsMadeFor s w
  pub valid : 0 < k → k < s.rows → Represents s k (image_of s raster) w

-- These records were taken, and what they settle was given.
pub record HasMuxed (settings : List Setting) (works : List Work) (start now : Outside) (v : Progress) : Type 0 where
  pub records : List CameraRow
  pub accepted : AreAccepted settings records
  pub since : Exchange start now (octets_of records) (mux_out settings records) [] (AsksMux settings records (octets_of records))
  pub left : (camera : ℕ) → camera < length settings → slice_index v.left camera + count_of camera records ≡ (setting_at settings camera).rows
  pub others : (camera : ℕ) → length settings ≤ camera → slice_index v.left camera ≡ 0
  pub ready : (camera : ℕ) (d : Work) → camera < length settings → IsReady (setting_at settings camera) (count_of camera records) (raster_of camera records)
      (slice_index_or works camera d)
  pub rasters : (camera : ℕ) → camera < length settings → length (raster_of camera records) ≡ count_of camera records * row_length (setting_at settings camera)
  pub size : length v.left ≡ 16
  pub records_are : v.records ≡ length records
  pub octets_are : v.octets ≡ length (octets_of records)
  pub packets_done : v.done.packets ≡ min (sum_of packets_in settings records) (2 ^ 64 - 1)
  pub octets_done : v.done.octets ≡ min (sum_of octets_in settings records) (2 ^ 64 - 1)
  pub bound : length records + sum v.left ≤ 2 ^ 22
  pub most : v.octets ≤ length records * 2 ^ 22

-- before the first record
pub record IsUnbegun (settings : List Setting) (v : Progress) : Type 0 where
  pub left : (camera : ℕ) → camera < length settings → slice_index v.left camera ≡ (setting_at settings camera).rows
  pub others : (camera : ℕ) → length settings ≤ camera → slice_index v.left camera ≡ 0
  pub size : length v.left ≡ 16
  pub records : v.records ≡ 0
  pub octets : v.octets ≡ 0
  pub packets_done : v.done.packets ≡ 0
  pub octets_done : v.done.octets ≡ 0

-- an octet was read, or the end was reached
abbrev pub SawOctet : (old new : Outside) → Option ℕ → Type 0
SawOctet old new None = Exchange old new [] [] [] AtStart × AtEnd new
SawOctet old new (Some octet) = Exchange old new (octet ∷ []) [] [] AtStart

-- one record more of a camera, whose row has this number of octets
abbrev pub with_record : Progress → (camera octets : ℕ) → MuxDone → Progress
with_record v camera octets done = record {
  left = slice_set v.left camera (slice_index v.left camera - 1);
  records = v.records + 1;
  octets = v.octets + (1 + octets);
  done = record { packets = min (v.done.packets + done.packets) (2 ^ 64 - 1); octets = min (v.done.octets + done.octets) (2 ^ 64 - 1) };
}
