-- The effect of a run of `encode`. This project's own.
use Rattle.std.specs.Prelude.{◌≢◌, ◌⊎◌, ◌≤◌, ℕ, List, [], Result}
use Rattle.port_122.specs.Outside.{Outside, GivenBy, Exchange, AtEnd}
use Rattle.base_122.specs.declared.setting.Setting.{Setting}
use Rattle.stream_defs.specs.Output.{output}
use Rattle.strip_coder.specs.declared.encode.EncodeDone.{EncodeDone}
use Rattle.strip_coder.specs.declared.encode.EncodeFault.{EncodeFault}
use Rattle.strip_coder.specs.Rasters.{image_of, given_for}
use Rattle.strip_coder.specs.Answers.{Answers, AsksInRange, TookRaster, coded_octets}
use Rattle.strip122.specs.Notes.{Report, silent, answer_report, fault_report}
use Rattle.strip122.specs.Ran.{Ran, LacksMemory}
use Rattle.strip122.specs.Behaviours.{Behaviour, memory_first}
use Rattle.strip122.specs.Books.{with_book}

-- ---- the whole effect of a run

-- the report on each answer of an encoder
abbrev pub encode_report : Result EncodeDone EncodeFault → Report
encode_report = answer_report (λ done. silent) fault_report

-- what causes an answer of an encoder
abbrev pub EncoderCauses : Type 1
EncoderCauses = Outside → Outside → List ℕ → List ℕ → Result EncodeDone EncodeFault → Type 0

-- what an encoder does at a read call: exactly this is given for the octets that were taken by then, which are at most those of the longest
-- raster, and whose whole pixels are all in range
abbrev pub AsksRaster : Setting → (given : List ℕ → List ℕ) → List ℕ → ℕ → ℕ → Type 0
AsksRaster setting given took i j = GivenBy given took i j × AsksInRange setting took i j

-- one run of an encoder that has its memory
abbrev pub RunsRaster : Setting → EncoderCauses → (given : List ℕ → List ℕ) → (old new : Outside) (status : ℕ) → Type 0
RunsRaster setting answers given = Ran answers (λ old took gave. AsksRaster setting given took) encode_report

-- one run of a command that encodes
abbrev pub RunsEncoder : Setting → EncoderCauses → (given : List ℕ → List ℕ) → (old new : Outside) (status : ℕ) → Type 0
RunsEncoder setting answers given old new status = LacksMemory old new status ⊎ RunsRaster setting answers given old new status

-- one run of `encode`: at a read call the packets of the settled segments are given
abbrev pub Encodes : Setting → (old new : Outside) (status : ℕ) → Type 0
Encodes setting = RunsEncoder setting (Answers setting) (given_for setting)

-- ---- what follows for one status

-- The whole raster of an image of these rows was taken and the end read, and the packets of its image are given. Its coded segments keep to
-- a total.
pub record EncodedWhole (setting : Setting) (old new : Outside) : Type 0 where
  pub took : List ℕ
  pub rows : ℕ
  pub since : Exchange old new took (output setting rows (image_of setting took)) [] (AsksRaster setting (given_for setting) took)
  pub raster : TookRaster setting rows took
  pub total : setting.total ≢ 0 → coded_octets setting rows (image_of setting took) ≤ setting.total
  pub ended : AtEnd new

-- ---- the behaviour of each command

-- an encoder that has its memory takes a raster of all its rows with all values in range
abbrev pub takes_raster : Setting → EncoderCauses → (given : List ℕ → List ℕ) → Behaviour
takes_raster setting answers given = record { performs = RunsRaster setting answers given; accepts = λ input. (rows : ℕ) × TookRaster setting rows input }

abbrev pub encoder : Setting → EncoderCauses → (given : List ℕ → List ℕ) → Behaviour
encoder setting answers given = memory_first (takes_raster setting answers given)

-- `encode`, once it has its memory
abbrev pub encodes_raster : Setting → Behaviour
encodes_raster setting = takes_raster setting (Answers setting) (given_for setting)

-- `encode`, without a book and with one; the memory is taken before the book is read
abbrev pub encodes : Setting → Behaviour
encodes setting = memory_first (encodes_raster setting)

abbrev pub encodes_with_book : Setting → Behaviour
encodes_with_book setting = memory_first (with_book (λ book. encodes_raster (record setting { book = book })))
