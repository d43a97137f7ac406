-- The answers of an encoder, and their causes. This project's own.
use Rattle.std.specs.Prelude.{◌≡◌, ◌<◌, ◌≤◌, ℕ, List, [], ◌++◌, length, drop, Some, Result, Ok, Err, ⊤}
use Rattle.base_122.specs.Ranges.{first_out_of_range}
use Rattle.base_122.specs.Setting.{IsHeight}
use Rattle.base_122.specs.declared.setting.Setting.{Setting}
use Rattle.raster_rows.specs.RowReads.{FirstInRange, IsFirstBad}
use Rattle.stream_defs.specs.Output.{output}
use Rattle.strip_coder.specs.Answers.{DoneFor}
use Rattle.strip_coder.specs.Plans.{tallest}
use Rattle.strip_coder.specs.Rasters.{row_length, image_of}
use Rattle.encoder_rows.specs.Room.{row_need, end_need}
use Rattle.encoder_rows.specs.Rows.{HasTakenRows, IsOpen}
use Rattle.encoder_rows.specs.declared.encoder.Encoder.{Encoder}
use Rattle.encoder_rows.specs.declared.refusal.Ended.{Ended}
use Rattle.encoder_rows.specs.declared.refusal.NewRefusal.{NewRefusal}
use Rattle.encoder_rows.specs.declared.refusal.NewRefusal.TheVariants.{OutOfRange, Memory}
use Rattle.encoder_rows.specs.declared.refusal.RowRefusal.{RowRefusal}
use Rattle.encoder_rows.specs.declared.refusal.RowRefusal.TheVariants as rows
use Rattle.encoder_rows.specs.declared.refusal.EndRefusal.{EndRefusal}
use Rattle.encoder_rows.specs.declared.refusal.EndRefusal.TheVariants as ends

-- ---- a new encoder

-- it has an image open, and nothing was taken or given of it
pub record Opens (s : Setting) (e : Encoder) : Type 0 where
  pub setting : e.setting ≡ s
  pub open_is : IsOpen e
  pub none : HasTakenRows [] [] e

abbrev pub NewAnswers : Setting → Result Encoder NewRefusal → Type 0
NewAnswers s (Ok e) = Opens s e
NewAnswers s (Err (OutOfRange field)) = first_out_of_range s ≡ Some field
NewAnswers s (Err Memory) = ⊤

-- ---- one row

-- the image can have a further row
abbrev pub HasPlace : Encoder → Type 0
HasPlace e = e.work.at.rows < tallest e.setting

-- the setting and the image so far are as before
pub record StaysAs (old new : Encoder) : Type 0 where
  pub setting : new.setting ≡ old.setting
  pub work : new.work ≡ old.work

-- The row was whole and in range, and was taken. The room begins with these packets, and the rest of it is unchanged.
pub record TakesRow (octets : List ℕ) (old new : Encoder) (before after : List ℕ) (count : ℕ) : Type 0 where
  pub place : HasPlace old
  pub whole : length octets ≡ row_length old.setting
  pub in_range : FirstInRange old.setting.depth old.setting.signed octets old.setting.width
  pub enough : row_need old.setting old.work.at.rows ≤ length before
  pub packets : List ℕ
  pub count_is : count ≡ length packets
  pub room : after ≡ packets ++ drop count before
  pub setting : new.setting ≡ old.setting
  pub rows : (taken given : List ℕ) → HasTakenRows taken given old → HasTakenRows (taken ++ octets) (given ++ packets) new

-- the cause of a refusal by the numbers of octets of the row and of the room, whatever the octets are
abbrev pub RefusesSize : Encoder → (octets room : ℕ) → RowRefusal → Type 0
RefusesSize e octets room rows.Full = tallest e.setting ≤ e.work.at.rows
RefusesSize e octets room rows.Short = HasPlace e × (octets < row_length e.setting)
RefusesSize e octets room rows.Long = HasPlace e × (row_length e.setting < octets)
RefusesSize e octets room (rows.SmallRoom need) = HasPlace e × (octets ≡ row_length e.setting) × (need ≡ row_need e.setting e.work.at.rows) × (room < need)
RefusesSize e octets room (rows.BadPixel column value) = ⊥

-- the cause of a refusal, by the number of octets of the room
abbrev pub RowCause : Encoder → (octets : List ℕ) → (room : ℕ) → RowRefusal → Type 0
RowCause e octets room (rows.BadPixel column value) =
    HasPlace e × (length octets ≡ row_length e.setting) × (row_need e.setting e.work.at.rows ≤ room) × IsFirstBad e.setting.depth e.setting.signed octets
    column value
RowCause e octets room refusal = RefusesSize e (length octets) room refusal

-- The causes exclude each other and the answer `Ok`, so each answer is given exactly if its cause holds. A refusal leaves the encoder and
-- the room as they were.
abbrev pub RowAnswers : (octets : List ℕ) → (old new : Encoder) → (before after : List ℕ) → Result ℕ RowRefusal → Type 0
RowAnswers octets old new before after (Ok count) = TakesRow octets old new before after count
RowAnswers octets old new before after (Err refusal) = StaysAs old new × (after ≡ before) × RowCause old octets (length before) refusal

-- ---- the end

-- an image can have the rows that were taken
abbrev pub IsComplete : Encoder → Type 0
IsComplete e = IsHeight e.setting e.work.at.rows

-- the setting with the number of another image
abbrev pub with_image : Setting → (image : ℕ) → Setting
with_image s image = record s { image = image }

-- The image had all of its rows. The room begins with its last packets, so that all packets of the image are given, and the next one is
-- open.
pub record Ends (image : ℕ) (old new : Encoder) (before after : List ℕ) (ended : Ended) : Type 0 where
  pub complete : IsComplete old
  pub enough : end_need old.setting old.work.at.rows ≤ length before
  pub packets : List ℕ
  pub count_is : ended.octets ≡ length packets
  pub room : after ≡ packets ++ drop ended.octets before
  pub all : (taken given : List ℕ) → HasTakenRows taken given old →
      (given ++ packets ≡ output old.setting old.work.at.rows (image_of old.setting taken)) × DoneFor old.setting old.work.at.rows
      (image_of old.setting taken) ended.done
  pub setting : new.setting ≡ with_image old.setting image
  pub none : HasTakenRows [] [] new

abbrev pub EndCause : Encoder → (room : ℕ) → EndRefusal → Type 0
EndCause e room ends.Unfinished = IsComplete e → ⊥
EndCause e room (ends.SmallRoom need) = IsComplete e × (need ≡ end_need e.setting e.work.at.rows) × (room < need)

abbrev pub EndAnswers : (image : ℕ) → (old new : Encoder) → (before after : List ℕ) → Result Ended EndRefusal → Type 0
EndAnswers image old new before after (Ok ended) = Ends image old new before after ended
EndAnswers image old new before after (Err refusal) = StaysAs old new × (after ≡ before) × EndCause old (length before) refusal
