-- What follows for each status of a command. This project's own.
use Rattle.std.specs.Prelude.{◌≡◌, ◌≢◌, ◌⊎◌, ◌≤◌, ◌++◌, ℕ, zero, suc, true, false, List, [], length, None, Some, Ok, Err}
use Rattle.port_122.specs.Outside.{Outside, Exchange, NoRead, Rose, AtEnd}
use Rattle.base_122.specs.declared.book.Book.{Book}
use Rattle.base_122.specs.declared.geometry.Geometry.{Geometry}
use Rattle.base_122.specs.declared.setting.Setting.{Setting}
use Rattle.base_122.specs.declared.wish.DecodeWish.{DecodeWish}
use Rattle.raster_rows.specs.declared.made.MadeImage.{MadeImage}
use Rattle.raster_rows.specs.Made.{made_value}
use Rattle.code_book.specs.declared.fault.BookFault.{BookFault}
use Rattle.command_words.specs.declared.tables.Reading.{Reading}
use Rattle.command_words.specs.declared.tables.Reading.TheVariants.{Decode, Damage, Look, Rects, List as ListPackets}
use Rattle.command_words.specs.declared.command.Command.{Command}
use Rattle.command_words.specs.declared.command.Command.TheVariants.{Encode, Mux, Read, Info, Pick, BareEncode, BareDecode, Make, Trial}
use Rattle.strip_coder.specs.declared.encode.EncodeFault.{EncodeFault}
use Rattle.strip_coder.specs.Rasters.{given_for}
use Rattle.strip_coder.specs.Answers.{Answers as EncodeAnswers}
use Rattle.camera_mux.specs.declared.mux.MuxFault.{MuxFault}
use Rattle.camera_mux.specs.Records.{CameraRow, octets_of, AreAccepted}
use Rattle.camera_mux.specs.MuxProgress.{AsksMux}
use Rattle.camera_mux.specs.MuxAnswers.{Answers as MuxAnswers}
use Rattle.bare_stream.specs.declared.fault.BareFault.{BareFault}
use Rattle.bare_stream.specs.Answers.{BareAnswers}
use Rattle.bare_stream.specs.Decoded.{IfKnown, AsksBare}
use Rattle.bare_stream.specs.Pictures.{all_rows}
use Rattle.bare_stream.specs.Rasters.{texts_for}
use Rattle.bare_stream.specs.StreamRead.{reading}
use Rattle.strip_decoder.specs.declared.ending.DecodeDone.{DecodeDone}
use Rattle.strip_decoder.specs.declared.ending.DecodeFault.{DecodeFault}
use Rattle.strip_decoder.specs.Answers.{Answers, Asks}
use Rattle.strip_decoder.specs.Finding.{FindAnswers}
use Rattle.quick_look.specs.Looks.{LookAnswers, LookAsks}
use Rattle.quick_look.specs.Listing.{RectAnswers}
use Rattle.strip_decoder.specs.declared.list.ListFault.TheVariants.{LongInput as list_long}
use Rattle.strip122.specs.declared.trial.TrialDone.{TrialDone}
use Rattle.strip122.specs.Notes.{IsNoted, fault_report, mux_report, decoder_report, bare_report, long_report}
use Rattle.strip122.specs.DamageNotes.{damaged, is_known, damage_line}
use Rattle.strip122.specs.MadeRasters.{made_raster}
use Rattle.strip122.specs.Trials.{made_with, trial_line, IsTried}
use Rattle.strip122.specs.Ran.{Asking, CausedWithin}
use Rattle.strip122.specs.Books.{AfterBook, LacksBook, book_report}
use Rattle.strip122.specs.Encoding.{EncoderCauses, AsksRaster, EncodedWhole}
use Rattle.strip122.specs.Muxing.{MuxedWhole, camera_settings}
use Rattle.strip122.specs.BareStreams.{EncodedBare, BareCauses, IsStreamOf}
use Rattle.strip122.specs.Listing.{Reader, reader_asks, lister, picker, informer}
use Rattle.strip122.specs.Decoding.{Causes, AsksFound}

-- What is valid of the outside before a run and after it: at status 0 the whole output is given, at 1 a part, at 3 the input is refused, and
-- at 6 there was too little memory.
pub record Outcomes : Type 1 where
  pub whole : Outside → Outside → Type 0
  pub part : Outside → Outside → Type 0
  pub refuses : Outside → Outside → Type 0
  pub nothing : Outside → Outside → Type 0

-- what follows for a status
abbrev pub AtStatus : Outcomes → Outside → Outside → ℕ → Type 0
AtStatus o old new zero = o.whole old new
AtStatus o old new (suc zero) = o.part old new
AtStatus o old new (suc (suc zero)) = ⊥
AtStatus o old new (suc (suc (suc zero))) = o.refuses old new
AtStatus o old new (suc (suc (suc (suc zero)))) = Rose old.read_faults new.read_faults
AtStatus o old new (suc (suc (suc (suc (suc zero))))) = Rose old.write_faults new.write_faults
AtStatus o old new (suc (suc (suc (suc (suc (suc zero)))))) = o.nothing old new
AtStatus o old new status = ⊥

-- no run of the command has this effect
abbrev pub Never : Outside → Outside → Type 0
Never old new = ⊥

-- nothing is read or given
abbrev pub OnlyNotes : Outside → Outside → Type 0
OnlyNotes old new = (wrote : List ℕ) × Exchange old new [] [] wrote NoRead

-- a command that takes its memory first
abbrev pub memory_outcomes : Outcomes → Outcomes
memory_outcomes o = record { whole = o.whole; part = o.part; refuses = o.refuses; nothing = OnlyNotes }

-- ---- rasters

-- The encoder refused its input: the cause and the note name the same fault.
pub record EncoderRefuses (setting : Setting) (answers : EncoderCauses) (given : List ℕ → List ℕ) (old new : Outside) : Type 0 where
  pub fault : EncodeFault
  pub took : List ℕ
  pub gave : List ℕ
  pub wrote : List ℕ
  pub since : Exchange old new took gave wrote (AsksRaster setting given took)
  pub input : (fault_report fault).status ≡ 3
  pub cause : answers old new took gave (Err fault)
  pub noted : IsNoted old new wrote (fault_report fault).line

abbrev pub raster_outcomes : Setting → EncoderCauses → (given : List ℕ → List ℕ) → (whole : Outside → Outside → Type 0) → Outcomes
raster_outcomes setting answers given whole = record { whole = whole; part = Never; refuses = EncoderRefuses setting answers given; nothing = Never }

-- `encode`, once it has its memory
abbrev pub encode_outcomes : Setting → Outcomes
encode_outcomes setting = raster_outcomes setting (EncodeAnswers setting) (given_for setting) (EncodedWhole setting)

-- The records were refused: the cause and the note name the same fault.
pub record MuxRefuses (settings : List Setting) (old new : Outside) : Type 0 where
  pub fault : MuxFault
  pub records : List CameraRow
  pub rest : List ℕ
  pub gave : List ℕ
  pub wrote : List ℕ
  pub accepted : AreAccepted settings records
  pub since : Exchange old new (octets_of records ++ rest) gave wrote (AsksMux settings records (octets_of records ++ rest))
  pub input : (mux_report fault).status ≡ 3
  pub cause : MuxAnswers settings old new records rest gave (Err fault)
  pub noted : IsNoted old new wrote (mux_report fault).line

abbrev pub mux_outcomes : List Setting → Outcomes
mux_outcomes settings = record { whole = MuxedWhole settings; part = Never; refuses = MuxRefuses settings; nothing = OnlyNotes }

-- ---- bare streams

abbrev pub bare_encode_outcomes : Setting → Outcomes
bare_encode_outcomes setting = memory_outcomes (raster_outcomes setting (BareAnswers setting) (texts_for setting) (EncodedBare setting))

-- a bare stream within the caps was taken, and the picture of all its segments is given
pub record GivesPicture (wish : DecodeWish) (took gave : List ℕ) (g : Geometry) : Type 0 where
  pub stream : IsStreamOf wish took g
  pub rows : gave ≡ all_rows g (reading wish took).segments.blocks

-- A bare stream was read to the end of the input, and its picture is given.
pub record DecodedBare (wish : DecodeWish) (old new : Outside) : Type 0 where
  pub g : Geometry
  pub took : List ℕ
  pub gave : List ℕ
  pub since : Exchange old new took gave [] (AsksBare wish old took gave)
  pub ended : AtEnd new
  pub picture : IfKnown old (λ input. GivesPicture wish took gave g)

-- The decoder refused its input: the cause and the note name the same fault.
pub record BareRefuses (wish : DecodeWish) (old new : Outside) : Type 0 where
  pub fault : BareFault
  pub took : List ℕ
  pub gave : List ℕ
  pub wrote : List ℕ
  pub since : Exchange old new took gave wrote (AsksBare wish old took gave)
  pub within : length took ≤ wish.octets
  pub input : (bare_report fault).status ≡ 3
  pub cause : BareCauses wish old new took gave (Err fault)
  pub noted : IsNoted old new wrote (bare_report fault).line

-- there is too little memory for the decoder: nothing is given
pub record BareLacksMemory (wish : DecodeWish) (old new : Outside) : Type 0 where
  pub took : List ℕ
  pub wrote : List ℕ
  pub since : Exchange old new took [] wrote (AsksBare wish old took [])
  pub within : length took ≤ wish.octets

abbrev pub bare_outcomes : DecodeWish → Outcomes
bare_outcomes wish = record { whole = DecodedBare wish; part = Never; refuses = BareRefuses wish; nothing = BareLacksMemory wish }

-- ---- packets

-- All is given and nothing noted: no block row is missing, the height is known, and the packets were read to their end.
pub record DecodedWhole (causes : Causes) (asks : Asking) (old new : Outside) : Type 0 where
  pub done : DecodeDone
  pub took : List ℕ
  pub gave : List ℕ
  pub since : Exchange old new took gave [] (asks old took gave)
  pub cause : causes old new took gave (Ok done)
  pub framing : done.framing ≡ None
  pub known : done.geometry.rows ≢ 0
  pub none_damaged : damaged done.damage ≡ []
  pub none_missing : (all : List ℕ) → old.rest ≡ Some all → done.damage.missing ≡ []

-- All is given, and the note says which rows are damaged, that the height isn't known, or why the packets could not be read on.
pub record DecodedPart (causes : Causes) (asks : Asking) (old new : Outside) : Type 0 where
  pub done : DecodeDone
  pub took : List ℕ
  pub gave : List ℕ
  pub wrote : List ℕ
  pub since : Exchange old new took gave wrote (asks old took gave)
  pub cause : causes old new took gave (Ok done)
  pub lacks : damaged done.damage ≡ [] → done.geometry.rows ≢ 0 → done.framing ≡ None → ⊥
  pub noted : IsNoted old new wrote (damage_line (damaged done.damage) (is_known done.geometry) done.framing)

-- The decoder refused its input: the cause and the note name the same fault.
pub record DecoderRefuses (causes : Causes) (asks : Asking) (old new : Outside) : Type 0 where
  pub fault : DecodeFault
  pub took : List ℕ
  pub gave : List ℕ
  pub wrote : List ℕ
  pub since : Exchange old new took gave wrote (asks old took gave)
  pub input : (decoder_report fault).status ≡ 3
  pub cause : causes old new took gave (Err fault)
  pub noted : IsNoted old new wrote (decoder_report fault).line

-- there is too little memory for the decoder: nothing is given
pub record DecoderLacksMemory (wish : DecodeWish) (asks : Asking) (old new : Outside) : Type 0 where
  pub took : List ℕ
  pub wrote : List ℕ
  pub since : Exchange old new took [] wrote (asks old took [])
  pub within : length took ≤ wish.octets

abbrev pub picture_outcomes : DecodeWish → Causes → Asking → Outcomes
picture_outcomes wish answers asks = record {
  whole = DecodedWhole (CausedWithin wish.octets answers) asks;
  part = DecodedPart (CausedWithin wish.octets answers) asks;
  refuses = DecoderRefuses (CausedWithin wish.octets answers) asks;
  nothing = DecoderLacksMemory wish asks;
}

-- All is given and nothing noted: the packets were read to their end.
pub record ReadWhole {D F : Type 0} (r : Reader D F) (old new : Outside) : Type 0 where
  pub done : D
  pub took : List ℕ
  pub gave : List ℕ
  pub since : Exchange old new took gave [] (reader_asks r old took gave)
  pub within : length took ≤ r.cap
  pub cause : r.causes old new took gave (Ok done)
  pub framing : r.framing_of done ≡ None

-- All is given, and the note says why the packets could not be read on.
pub record ReadPart {D F : Type 0} (r : Reader D F) (old new : Outside) : Type 0 where
  pub done : D
  pub took : List ℕ
  pub gave : List ℕ
  pub wrote : List ℕ
  pub since : Exchange old new took gave wrote (reader_asks r old took gave)
  pub within : length took ≤ r.cap
  pub cause : r.causes old new took gave (Ok done)
  pub lacks : r.framing_of done ≡ None → ⊥
  pub noted : IsNoted old new wrote (damage_line [] true (r.framing_of done))

-- The input was refused, which is too long.
pub record ReadRefuses {D F : Type 0} (r : Reader D F) (old new : Outside) : Type 0 where
  pub fault : F
  pub long : r.fault_of fault ≡ list_long
  pub took : List ℕ
  pub gave : List ℕ
  pub wrote : List ℕ
  pub since : Exchange old new took gave wrote (reader_asks r old took gave)
  pub cause : r.causes old new took gave (Err fault)
  pub noted : IsNoted old new wrote long_report.line

abbrev pub reader_outcomes : {D F : Type 0} → Reader D F → Outcomes
reader_outcomes r = record { whole = ReadWhole r; part = ReadPart r; refuses = ReadRefuses r; nothing = OnlyNotes }

abbrev pub reads_outcomes : Reading → DecodeWish → Outcomes
reads_outcomes Decode wish = picture_outcomes wish (Answers wish) (Asks wish)
reads_outcomes Damage wish = picture_outcomes wish (FindAnswers wish) (AsksFound wish)
reads_outcomes Look wish = picture_outcomes wish (LookAnswers wish) (LookAsks wish)
reads_outcomes Rects wish = picture_outcomes wish (RectAnswers wish) (AsksFound wish)
reads_outcomes ListPackets wish = reader_outcomes (lister wish)

-- ---- a book first

-- the input was refused at its book
pub record RefusesBook (old new : Outside) : Type 0 where
  pub fault : BookFault
  pub lacks : LacksBook old new fault
  pub input : (book_report fault).status ≡ 3

abbrev pub book_outcomes : (Book → Outcomes) → Outcomes
book_outcomes o = record {
  whole = AfterBook (λ book. (o book).whole);
  part = AfterBook (λ book. (o book).part);
  refuses = λ old new. RefusesBook old new ⊎ AfterBook (λ book. (o book).refuses) old new;
  nothing = AfterBook (λ book. (o book).nothing);
}

-- ---- made images

-- the line of a trial is given, and nothing else
pub record TriedWhole (setting : Setting) (seed : ℕ) (old new : Outside) : Type 0 where
  pub done : TrialDone
  pub tried : IsTried setting (made_value (made_with setting seed)) done
  pub since : Exchange old new [] (trial_line setting done) [] NoRead

abbrev pub make_outcomes : MadeImage → Outcomes
make_outcomes made = record {
  whole = λ old new. Exchange old new [] (made_raster made) [] NoRead;
  part = Never;
  refuses = Never;
  nothing = Never;
}

abbrev pub trial_outcomes : Setting → (seed : ℕ) → Outcomes
trial_outcomes setting seed = record { whole = TriedWhole setting seed; part = Never; refuses = Never; nothing = OnlyNotes }

-- ---- each command

abbrev pub outcomes : Command → Outcomes
outcomes (Encode setting false) = memory_outcomes (encode_outcomes setting)
outcomes (Encode setting true) = memory_outcomes (book_outcomes (λ book. encode_outcomes (record setting { book = book })))
outcomes (Mux setting cameras) = mux_outcomes (camera_settings setting cameras)
outcomes (Read kind wish false) = reads_outcomes kind wish
outcomes (Read kind wish true) = book_outcomes (λ book. reads_outcomes kind (record wish { book = book }))
outcomes (Info apid octets) = reader_outcomes (informer (record { apid = apid; octets = octets }))
outcomes (Pick wish image) = reader_outcomes (picker wish image)
outcomes (BareEncode setting) = bare_encode_outcomes setting
outcomes (BareDecode wish) = bare_outcomes wish
outcomes (Make made) = make_outcomes made
outcomes (Trial setting seed) = trial_outcomes setting seed
