-- The effect of a run of `mux`. This project's own.
use Rattle.std.specs.Prelude.{◌≡◌, ◌⊎◌, ◌<◌, ◌+◌, ℕ, List, [], ◌++◌, length, map, Result}
use Rattle.std.specs.List.{range_with_len}
use Rattle.port_122.specs.Outside.{Outside, Exchange, AtEnd}
use Rattle.base_122.specs.declared.setting.Setting.{Setting}
use Rattle.camera_mux.specs.declared.mux.MuxDone.{MuxDone}
use Rattle.camera_mux.specs.declared.mux.MuxFault.{MuxFault}
use Rattle.camera_mux.specs.Records.{CameraRow, octets_of, AreAccepted, AreFull}
use Rattle.camera_mux.specs.MuxOut.{mux_out}
use Rattle.camera_mux.specs.MuxProgress.{AsksMux}
use Rattle.camera_mux.specs.MuxAnswers.{Answers}
use Rattle.camera_mux.specs.MuxLaws.{KeepsCamera}
use Rattle.strip122.specs.Notes.{IsNoted, Report, silent, answer_report, mux_report}
use Rattle.strip122.specs.Ran.{LacksMemory}
use Rattle.strip122.specs.Behaviours.{Behaviour}

-- the settings of some cameras, whose APIDs follow one another
abbrev pub camera_settings : Setting → (cameras : ℕ) → List Setting
camera_settings setting cameras = map (λ camera. record setting { apid = setting.apid + camera }) (range_with_len 0 cameras)

-- ---- the whole effect of a run

-- the report on each answer
abbrev pub mux_answer_report : Result MuxDone MuxFault → Report
mux_answer_report = answer_report (λ done. silent) mux_report

-- One run for which there was memory: the records that were accepted, what was taken after them, given and noted, when, and the answer
-- with its cause. Of all that these records settle, each camera's packets are those that it gives alone.
pub record MuxesRecords (settings : List Setting) (old new : Outside) (status : ℕ) : Type 0 where
  pub answer : Result MuxDone MuxFault
  pub records : List CameraRow
  pub rest : List ℕ
  pub gave : List ℕ
  pub wrote : List ℕ
  pub accepted : AreAccepted settings records
  pub since : Exchange old new (octets_of records ++ rest) gave wrote (AsksMux settings records (octets_of records ++ rest))
  pub cause : Answers settings old new records rest gave answer
  pub keeps : (camera : ℕ) → camera < length settings → KeepsCamera settings records camera
  pub status_is : status ≡ (mux_answer_report answer).status
  pub noted : IsNoted old new wrote (mux_answer_report answer).line

-- one run of `mux`
abbrev pub Muxes : List Setting → (old new : Outside) (status : ℕ) → Type 0
Muxes settings old new status = LacksMemory old new status ⊎ MuxesRecords settings old new status

-- ---- what follows for one status

-- All rows of all cameras were taken and the end read, and the packets of all images are given. Those of each camera's APID are all
-- packets of its image, as the camera gives them alone.
pub record MuxedWhole (settings : List Setting) (old new : Outside) : Type 0 where
  pub records : List CameraRow
  pub accepted : AreAccepted settings records
  pub full : AreFull settings records
  pub since : Exchange old new (octets_of records) (mux_out settings records) [] (AsksMux settings records (octets_of records))
  pub keeps : (camera : ℕ) → camera < length settings → KeepsCamera settings records camera
  pub ended : AtEnd new

-- ---- the behaviour

-- these octets are records with all rows of all cameras and values in range
pub record AreRecords (settings : List Setting) (octets : List ℕ) : Type 0 where
  pub records : List CameraRow
  pub accepted : AreAccepted settings records
  pub full : AreFull settings records
  pub octets_are : octets ≡ octets_of records

abbrev pub muxes : List Setting → Behaviour
muxes settings = record { performs = Muxes settings; accepts = AreRecords settings }
