-- The effect of a run of `list`, `pick` and `info`. This project's own.
use Rattle.std.specs.Prelude.{◌≡◌, ◌⊎◌, ◌<◌, ◌≤◌, ℕ, List, [], length, take, true, Option, Result, Ok, Err}
use Rattle.port_122.specs.Outside.{Outside}
use Rattle.base_122.specs.declared.wish.DecodeWish.{DecodeWish}
use Rattle.packet_defs.specs.declared.packet.Framing.{Framing}
use Rattle.packet_defs.specs.Streams.{left_over, has_bad_version}
use Rattle.packet_assembly.specs.Readings.{AsksReadable}
use Rattle.strip_decoder.specs.declared.list.ListDone.{ListDone}
use Rattle.strip_decoder.specs.declared.list.ListFault.{ListFault}
use Rattle.strip_decoder.specs.declared.list.ListFault.TheVariants.{ReadFault, WriteFault, LongInput, Memory}
use Rattle.strip_decoder.specs.ListAnswers.{Answers}
use Rattle.strip_decoder.specs.ListProgress.{AsksListed}
use Rattle.camera_mux.specs.PickAnswers.{Answers as PickAnswers}
use Rattle.camera_mux.specs.PickProgress.{AsksPicked}
use Rattle.camera_mux.specs.declared.info.InfoDone.{InfoDone}
use Rattle.camera_mux.specs.declared.info.InfoFault.{InfoFault}
use Rattle.camera_mux.specs.declared.info.InfoFault.TheVariants.{ReadFault as info_read_failed, WriteFault as info_write_failed, LongInput as info_long}
use Rattle.camera_mux.specs.declared.info.InfoFault.TheVariants.{TooManyImages, Memory as info_memory}
use Rattle.camera_mux.specs.declared.info.InfoWish.{InfoWish}
use Rattle.camera_mux.specs.InfoAnswers.{Answers as InfoAnswers, AsksFew, image_count}
use Rattle.camera_mux.specs.Images.{most_images}
use Rattle.strip122.specs.Notes.{Report, answer_report, list_report}
use Rattle.strip122.specs.DamageNotes.{done_report}
use Rattle.strip122.specs.Ran.{Asking, Ran, CausedWithin, LacksMemory}
use Rattle.strip122.specs.Behaviours.{Behaviour}

-- ---- a reader of packets that aren't decoded

-- One engine: the causes of its answers, what it does at a read call, which octets hold no more than it can list, and how its answers are
-- noted.
pub record Reader (D F : Type 0) : Type 1 where
  pub cap : ℕ
  pub causes : Outside → Outside → List ℕ → List ℕ → Result D F → Type 0
  pub asks : Asking
  pub Few : List ℕ → Type 0
  pub framing_of : D → Option Framing
  pub fault_of : F → ListFault

-- the report on each answer
abbrev pub reader_report : {D F : Type 0} → Reader D F → Result D F → Report
reader_report r = answer_report (λ done. done_report [] true (r.framing_of done)) (λ fault. list_report (r.fault_of fault))

-- what causes an answer if there was memory
abbrev pub WithMemory : {D F : Type 0} → (r : Reader D F) → Outside → Outside → List ℕ → List ℕ → Result D F → Type 0
WithMemory r old new took gave (Ok done) = r.causes old new took gave (Ok done)
WithMemory r old new took gave (Err fault) = (r.fault_of fault ≡ Memory → ⊥) × r.causes old new took gave (Err fault)

-- what it does at a read call, and that the octets that were taken by then can be read on, and are fewer than the cap allows
abbrev pub reader_asks : {D F : Type 0} → Reader D F → Asking
reader_asks r old took gave i j = r.asks old took gave i j × AsksReadable r.cap took i j

-- ---- the whole effect of a run

-- one run of a command with such an engine
abbrev pub Reads : {D F : Type 0} → Reader D F → (old new : Outside) (status : ℕ) → Type 0
Reads r old new status =
    LacksMemory old new status ⊎ Ran (CausedWithin r.cap (WithMemory r)) (reader_asks r) (reader_report r) old new status

-- ---- the input that is left

-- the end of these octets, or what can't be read on, is within those that may be taken
abbrev pub EndsWithin : (cap : ℕ) → List ℕ → Type 0
EndsWithin cap input = (length input < cap) ⊎ (has_bad_version (left_over (take cap input)) ≡ true)

-- ---- the behaviour of each command

abbrev pub reads_packets : {D F : Type 0} → Reader D F → Behaviour
reads_packets r = record { performs = Reads r; accepts = λ input. EndsWithin r.cap input × r.Few input }

-- `list`: at a read call exactly the lines of the packets that are whole by then are given
abbrev pub lister : DecodeWish → Reader ListDone ListFault
lister wish = record {
  cap = wish.octets;
  causes = Answers wish;
  asks = λ old took gave. AsksListed wish.apid took gave;
  Few = λ octets. Unit {0};
  framing_of = λ done. done.framing;
  fault_of = λ fault. fault;
}

-- `pick`: at a read call exactly the picked packets that are whole by then are given
abbrev pub picker : DecodeWish → (image : Option ℕ) → Reader ListDone ListFault
picker wish image = record {
  cap = wish.octets;
  causes = PickAnswers wish image;
  asks = λ old took gave. AsksPicked wish.apid image took gave;
  Few = λ octets. Unit {0};
  framing_of = λ done. done.framing;
  fault_of = λ fault. fault;
}

-- more images than there are lines for are too long an input
abbrev pub info_fault_of : InfoFault → ListFault
info_fault_of info_read_failed = ReadFault
info_fault_of info_write_failed = WriteFault
info_fault_of info_long = LongInput
info_fault_of TooManyImages = LongInput
info_fault_of info_memory = Memory

-- `info`: at a read call nothing is given
abbrev pub informer : InfoWish → Reader InfoDone InfoFault
informer wish = record {
  cap = wish.octets;
  causes = InfoAnswers wish;
  asks = λ old took gave. AsksFew wish.apid took;
  Few = λ octets. image_count wish.apid octets ≤ most_images;
  framing_of = λ done. done.framing;
  fault_of = info_fault_of;
}
