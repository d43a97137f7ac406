-- The effect of a run of `decode`, `damage`, `look` and `rects`, and how each command reads packets. This project's own.
use Rattle.std.specs.Prelude.{◌≡◌, ℕ, List, Some, Result}
use Rattle.port_122.specs.Outside.{Outside}
use Rattle.base_122.specs.declared.geometry.Geometry.{Geometry}
use Rattle.base_122.specs.declared.wish.DecodeWish.{DecodeWish}
use Rattle.stream_defs.specs.Begun.{HasFewPixels}
use Rattle.stream_defs.specs.Fates.{geometry_in}
use Rattle.strip_decoder.specs.declared.ending.DecodeDone.{DecodeDone}
use Rattle.strip_decoder.specs.declared.ending.DecodeFault.{DecodeFault}
use Rattle.strip_decoder.specs.Answers.{Answers, Asks}
use Rattle.strip_decoder.specs.Finding.{FindAnswers}
use Rattle.strip_decoder.specs.WalkAnswers.{AsksSilent}
use Rattle.quick_look.specs.Looks.{LookAnswers, LookAsks}
use Rattle.quick_look.specs.Listing.{RectAnswers}
use Rattle.strip122.specs.Notes.{Report, answer_report, decoder_report}
use Rattle.strip122.specs.DamageNotes.{damaged, is_known, done_report}
use Rattle.strip122.specs.Ran.{Asking, Ran, CausedWithin}
use Rattle.strip122.specs.Listing.{EndsWithin, lister, reads_packets}
use Rattle.strip122.specs.Behaviours.{Behaviour}
use Rattle.command_words.specs.declared.tables.Reading.{Reading}
use Rattle.command_words.specs.declared.tables.Reading.TheVariants.{Decode, Damage, Look, Rects, List as ListPackets}

-- the report on each answer
abbrev pub decode_report : Result DecodeDone DecodeFault → Report
decode_report = answer_report (λ done. done_report (damaged done.damage) (is_known done.geometry) done.framing) decoder_report

-- ---- the whole effect of a run

-- what causes an answer of a decoder
abbrev pub Causes : Type 1
Causes = Outside → Outside → List ℕ → List ℕ → Result DecodeDone DecodeFault → Type 0

-- one run of an engine that answers as a decoder does
abbrev pub RunsDecoder : Causes → Asking → (old new : Outside) (status : ℕ) → Type 0
RunsDecoder causes asks = Ran causes asks decode_report

-- what causes an answer of `decode`, and the most octets that are taken for it
abbrev pub DecodeCauses : DecodeWish → Causes
DecodeCauses wish = CausedWithin wish.octets (Answers wish)

-- one run of `decode`
abbrev pub Decodes : DecodeWish → (old new : Outside) (status : ℕ) → Type 0
Decodes wish = RunsDecoder (DecodeCauses wish) (Asks wish)

-- the same for `damage`
abbrev pub FindCauses : DecodeWish → Causes
FindCauses wish = CausedWithin wish.octets (FindAnswers wish)

-- what `damage` does at a read call: nothing is given
abbrev pub AsksFound : DecodeWish → Asking
AsksFound wish old took gave = AsksSilent wish took

-- one run of `damage`
abbrev pub FindsDamage : DecodeWish → (old new : Outside) (status : ℕ) → Type 0
FindsDamage wish = RunsDecoder (FindCauses wish) (AsksFound wish)

-- one run of `look`
abbrev pub LooksAt : DecodeWish → (old new : Outside) (status : ℕ) → Type 0
LooksAt wish = RunsDecoder (CausedWithin wish.octets (LookAnswers wish)) (LookAsks wish)

-- one run of `rects`: at a read call nothing is given
abbrev pub FindsRects : DecodeWish → (old new : Outside) (status : ℕ) → Type 0
FindsRects wish = RunsDecoder (CausedWithin wish.octets (RectAnswers wish)) (AsksFound wish)

-- ---- the input that is left

-- These octets report an image of no more pixels than are wished. The rows that their kept headers reach never fall, so none of these headers
-- reports more.
abbrev pub ReportsFew : DecodeWish → List ℕ → Type 0
ReportsFew wish input = (g : Geometry) × (geometry_in wish.apid input ≡ Some g) × HasFewPixels wish.pixels wish.apid input

-- ---- the behaviour of each command

-- `decode` and `damage` take packets of a picture
abbrev pub reads_picture : DecodeWish → Causes → Asking → Behaviour
reads_picture wish answers asks = record {
  performs = RunsDecoder (CausedWithin wish.octets answers) asks;
  accepts = λ input. EndsWithin wish.octets input × ReportsFew wish input;
}

abbrev pub reads : Reading → DecodeWish → Behaviour
reads Decode wish = reads_picture wish (Answers wish) (Asks wish)
reads Damage wish = reads_picture wish (FindAnswers wish) (AsksFound wish)
reads Look wish = reads_picture wish (LookAnswers wish) (LookAsks wish)
reads Rects wish = reads_picture wish (RectAnswers wish) (AsksFound wish)
reads ListPackets wish = reads_packets (lister wish)
