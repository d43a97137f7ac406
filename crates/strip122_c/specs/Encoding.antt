-- The report on an encoding. This project's own.
use Rattle.std.specs.Prelude.{◌≡◌, ◌≢◌, ◌⊎◌, ℕ, List, Result, Ok, Err}
use Rattle.base_122.specs.Ranges.{IsInRange}
use Rattle.base_122.specs.declared.setting.Setting.{Setting}
use Rattle.strip_coder.specs.Answers.{TookRaster}
use Rattle.strip_coder.specs.declared.encode.EncodeDone.{EncodeDone}
use Rattle.strip122_c.specs.declared.encode.EncodeRefusal.{EncodeRefusal}
use Rattle.strip122_c.specs.declared.encode.EncodeRefusal.TheVariants.{OutOfRange, Short, Long, BadPixel, SmallRoom, Memory}
use Rattle.strip122_c.specs.EncodedReport.{encoded_size, field_number, nothing}
use Rattle.strip122_c.specs.Settings.{refusal_answer, setting_in}
use Rattle.strip122_c.specs.WholeEncoding.{Encodes}
use Rattle.strip122_c.specs.declared.encoded.Strip122Encoded.{Strip122Encoded}
use Rattle.strip122_c.specs.declared.setting.SettingRefusal.{SettingRefusal}
use Rattle.strip122_c.specs.declared.setting.Strip122Setting.{Strip122Setting}

-- the report on an encoding that ended so
abbrev pub report_of : Result EncodeDone EncodeRefusal → Strip122Encoded
report_of (Ok done) = record nothing { octets = done.octets; all = done.octets; packets = done.packets; segments = done.segments }
report_of (Err (OutOfRange field)) = record nothing { field = field_number field }
report_of (Err Short) = nothing
report_of (Err Long) = nothing
report_of (Err (BadPixel row column value)) = record nothing { rows = row; column = column; value = value }
report_of (Err (SmallRoom octets)) = record nothing { octets = octets }
report_of (Err Memory) = nothing

-- the answer to it
abbrev pub answer_of : Result EncodeDone EncodeRefusal → ℕ
answer_of (Ok done) = 0
answer_of (Err (OutOfRange field)) = 2
answer_of (Err Short) = 3
answer_of (Err Long) = 4
answer_of (Err (BadPixel row column value)) = 5
answer_of (Err (SmallRoom octets)) = 7
answer_of (Err Memory) = 8

-- A raster was encoded into a room that was `old`, or refused. The answer and the report say how it ended.
pub record ReportsEncoding (s : Setting) (raster old new : List ℕ) (report : Strip122Encoded) (answer : ℕ) : Type 0 where
  pub ended : Result EncodeDone EncodeRefusal
  pub encodes : Encodes s raster old new ended
  pub answer_is : answer ≡ answer_of ended
  pub report_is : report ≡ report_of ended

-- the raster was encoded, or the room is too small, or there is no memory
abbrev pub IsAccepted : (answer : ℕ) → Type 0
IsAccepted answer = (answer ≡ 0) ⊎ ((answer ≡ 7) ⊎ (answer ≡ 8))

-- A raster was encoded with the setting that a structure gives. A structure that gives none leaves the room unchanged.
abbrev pub EncodesFor : Result Setting SettingRefusal → (raster old new : List ℕ) → Strip122Encoded → (answer : ℕ) → Type 0
EncodesFor (Ok s) raster old new report answer = ReportsEncoding s raster old new report answer × (IsInRange s → TookRaster s s.rows raster → IsAccepted answer)
EncodesFor (Err refusal) raster old new report answer = (new ≡ old) × (report ≡ nothing) × (answer ≡ refusal_answer refusal)

-- If the report's first field is not its size, the room and the report are as they were.
pub record EncodesInto (c : Strip122Setting) (raster old new : List ℕ) (before report : Strip122Encoded) (answer : ℕ) : Type 0 where
  pub wrong : before.size ≢ encoded_size → (new ≡ old) × (report ≡ before) × (answer ≡ 13)
  pub done : before.size ≡ encoded_size → EncodesFor (setting_in c) raster old new report answer
