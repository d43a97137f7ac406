-- What the calls of an encoder in memory of C's do. This project's own.
use Rattle.std.specs.Prelude.{◌≡◌, ◌≢◌, ℕ, List, Option, Some, None, Result, Ok, Err, ⊤}
use Rattle.base_122.specs.declared.setting.Setting.{Setting}
use Rattle.encoder_rows.specs.Answers.{EndAnswers, NewAnswers, RowAnswers}
use Rattle.encoder_rows.specs.Rows.{IsOpen, progress_of}
use Rattle.encoder_rows.specs.declared.encoder.Encoder.{Encoder}
use Rattle.encoder_rows.specs.declared.refusal.EndRefusal.{EndRefusal}
use Rattle.encoder_rows.specs.declared.refusal.Ended.{Ended}
use Rattle.encoder_rows.specs.declared.refusal.NewRefusal.{NewRefusal}
use Rattle.encoder_rows.specs.declared.refusal.RowRefusal.{RowRefusal}
use Rattle.strip122_c.specs.EncodedReport.{encoded_size, nothing}
use Rattle.strip122_c.specs.RowReports.{end_answer, end_report, new_answer, new_report, row_answer, row_report}
use Rattle.strip122_c.specs.Settings.{refusal_answer, setting_in}
use Rattle.strip122_c.specs.declared.encoded.Strip122Encoded.{Strip122Encoded}
use Rattle.strip122_c.specs.declared.encoder.Strip122Encoder.{Strip122Encoder}
use Rattle.strip122_c.specs.declared.setting.SettingRefusal.{SettingRefusal}
use Rattle.strip122_c.specs.declared.setting.Strip122Setting.{Strip122Setting}

-- ---- between two calls

-- there is no encoder, and nothing is owned
abbrev pub Closes : Strip122Encoder → Type 0
Closes place = place.encoder ≡ None

abbrev pub IsOpenIn : Option Encoder → Type 0
IsOpenIn (Some e) = IsOpen e
IsOpenIn None = ⊤

-- there is no encoder, or it has an image open
abbrev pub IsReady : Strip122Encoder → Type 0
IsReady place = IsOpenIn place.encoder

-- ---- a new encoder

abbrev pub made_of : Result Encoder NewRefusal → Option Encoder
made_of (Ok e) = Some e
made_of (Err refusal) = None

-- an encoder was made of a setting, or refused
pub record Opens (s : Setting) (new : Option Encoder) (report : Strip122Encoded) (answer : ℕ) : Type 0 where
  pub ended : Result Encoder NewRefusal
  pub answers : NewAnswers s ended
  pub new_is : new ≡ made_of ended
  pub report_is : report ≡ new_report ended
  pub answer_is : answer ≡ new_answer ended

abbrev pub OpensFor : Result Setting SettingRefusal → (new : Option Encoder) → Strip122Encoded → (answer : ℕ) → Type 0
OpensFor (Ok s) new report answer = Opens s new report answer
OpensFor (Err refusal) new report answer = (new ≡ None) × (report ≡ nothing) × (answer ≡ refusal_answer refusal)

-- The place has an encoder of the setting, or none. If the report's first field is not its size, there is none and the report is as it was.
pub record MakesInto (c : Strip122Setting) (new : Strip122Encoder) (before report : Strip122Encoded) (answer : ℕ) : Type 0 where
  pub ready : IsReady new
  pub wrong : before.size ≢ encoded_size → Closes new × (report ≡ before) × (answer ≡ 13)
  pub done : before.size ≡ encoded_size → OpensFor (setting_in c) new.encoder report answer

-- ---- a row

-- an encoder took a row, or refused it
pub record TakesOne (octets : List ℕ) (old new : Encoder) (room after : List ℕ) (report : Strip122Encoded) (answer : ℕ) : Type 0 where
  pub ended : Result ℕ RowRefusal
  pub answers : RowAnswers octets old new room after ended
  pub report_is : report ≡ row_report (progress_of new) ended
  pub answer_is : answer ≡ row_answer ended

abbrev pub TakesIn : (octets : List ℕ) → (old new : Option Encoder) → (room after : List ℕ) → Strip122Encoded → (answer : ℕ) → Type 0
TakesIn octets (Some old) (Some new) room after report answer = TakesOne octets old new room after report answer
TakesIn octets None None room after report answer = (after ≡ room) × (report ≡ nothing) × (answer ≡ 9)
TakesIn octets old new room after report answer = ⊥

-- Nothing is as it was but for this. If the report's first field is not its size, all is as it was.
pub record TakesInto (octets : List ℕ) (old new : Strip122Encoder) (room after : List ℕ) (before report : Strip122Encoded) (answer : ℕ) : Type 0 where
  pub ready : IsReady new
  pub wrong : before.size ≢ encoded_size → (new ≡ old) × (after ≡ room) × (report ≡ before) × (answer ≡ 13)
  pub done : before.size ≡ encoded_size → TakesIn octets old.encoder new.encoder room after report answer

-- ---- the end

-- an encoder ended its image, or refused to
pub record EndsOne (image : ℕ) (old new : Encoder) (room after : List ℕ) (report : Strip122Encoded) (answer : ℕ) : Type 0 where
  pub ended : Result Ended EndRefusal
  pub answers : EndAnswers image old new room after ended
  pub report_is : report ≡ end_report (progress_of old) ended
  pub answer_is : answer ≡ end_answer ended

abbrev pub EndsIn : (image : ℕ) → (old new : Option Encoder) → (room after : List ℕ) → Strip122Encoded → (answer : ℕ) → Type 0
EndsIn image (Some old) (Some new) room after report answer = EndsOne image old new room after report answer
EndsIn image None None room after report answer = (after ≡ room) × (report ≡ nothing) × (answer ≡ 9)
EndsIn image old new room after report answer = ⊥

-- The same for the end of an image.
pub record EndsInto (image : ℕ) (old new : Strip122Encoder) (room after : List ℕ) (before report : Strip122Encoded) (answer : ℕ) : Type 0 where
  pub ready : IsReady new
  pub wrong : before.size ≢ encoded_size → (new ≡ old) × (after ≡ room) × (report ≡ before) × (answer ≡ 13)
  pub done : before.size ≡ encoded_size → EndsIn image old.encoder new.encoder room after report answer
