-- The effect of a run of `bare-encode` and `bare-decode`. This project's own.
use Rattle.std.specs.Prelude.{◌≡◌, ℕ, ℤ, List, [], Result, Ok}
use Rattle.port_122.specs.Outside.{Outside, Exchange, AtEnd}
use Rattle.base_122.specs.declared.geometry.Geometry.{Geometry}
use Rattle.base_122.specs.declared.setting.Setting.{Setting}
use Rattle.base_122.specs.declared.wish.DecodeWish.{DecodeWish}
use Rattle.strip_coder.specs.Rasters.{image_of}
use Rattle.strip_coder.specs.Answers.{TookRaster}
use Rattle.bare_stream.specs.Bare.{bare}
use Rattle.bare_stream.specs.Rasters.{texts_for}
use Rattle.bare_stream.specs.Answers.{BareAnswers}
use Rattle.bare_stream.specs.Images.{IsBareImage}
use Rattle.bare_stream.specs.RoundTrip.{GivesImage}
use Rattle.bare_stream.specs.StreamRead.{answer_for}
use Rattle.bare_stream.specs.Decoded.{IfKnown, Answers, EndsSo, AsksBare}
use Rattle.bare_stream.specs.declared.fault.BareFault.{BareFault}
use Rattle.strip122.specs.Notes.{Report, silent, answer_report, bare_report}
use Rattle.strip122.specs.Ran.{Ran, CausedWithin}
use Rattle.strip122.specs.Behaviours.{Behaviour}
use Rattle.strip122.specs.Encoding.{AsksRaster, RunsEncoder, encoder}

-- ---- `bare-encode`

-- one run: at a read call the texts of the settled segments are given
abbrev pub EncodesBare : Setting → (old new : Outside) (status : ℕ) → Type 0
EncodesBare setting = RunsEncoder setting (BareAnswers setting) (texts_for setting)

-- The whole raster was taken and the end read, and the bare stream of its image is given.
pub record EncodedBare (setting : Setting) (old new : Outside) : Type 0 where
  pub took : List ℕ
  pub since : Exchange old new took (bare setting (image_of setting took)) [] (AsksRaster setting (texts_for setting) took)
  pub raster : TookRaster setting setting.rows took
  pub ended : AtEnd new

abbrev pub encodes_bare : Setting → Behaviour
encodes_bare setting = encoder setting (BareAnswers setting) (texts_for setting)

-- ---- `bare-decode`: the whole effect of a run

-- the report on each answer
abbrev pub bare_answer_report : Result Geometry BareFault → Report
bare_answer_report = answer_report (λ g. silent) bare_report

-- The cause of an answer: how the run ended, and the answer of the function by which the stream is read.
pub record BareCauses (wish : DecodeWish) (old new : Outside) (took gave : List ℕ) (answer : Result Geometry BareFault) : Type 0 where
  pub ends : EndsSo answer old new gave
  pub answers : IfKnown old (λ input. Answers wish input took gave answer)

-- one run: each read call that takes octets does so while those before do not decide the answer, and has given exactly the rows that they
-- determine
abbrev pub DecodesStream : DecodeWish → (old new : Outside) (status : ℕ) → Type 0
DecodesStream wish = Ran (CausedWithin wish.octets (BareCauses wish)) (AsksBare wish) bare_answer_report

-- ---- the input that is left

-- The octets are a bare stream of this geometry, within the caps: they are fewer than may be taken, and no header of theirs reports more
-- pixels than are wished.
abbrev pub IsStreamOf : DecodeWish → (octets : List ℕ) → Geometry → Type 0
IsStreamOf wish octets g = answer_for wish octets ≡ Ok g

-- ---- the behaviour

-- it takes a bare stream within the caps, and no other octets
abbrev pub decodes_bare : DecodeWish → Behaviour
decodes_bare wish = record { performs = DecodesStream wish; accepts = λ input. (g : Geometry) × IsStreamOf wish input g }

-- ---- the round trip

-- A picture was given. If the stream is that of an image from which nothing is missing, and was written with the book of the wish, what is
-- given is the image's raster.
pub record GaveBare (wish : DecodeWish) (old new : Outside) : Type 0 where
  pub g : Geometry
  pub took : List ℕ
  pub gave : List ℕ
  pub since : Exchange old new took gave [] (AsksBare wish old took gave)
  pub back : IfKnown old (λ input. (s : Setting) (x : ℕ → ℕ → ℤ) → wish.book ≡ s.book → IsBareImage s x → took ≡ bare s x → GivesImage s x gave g)
