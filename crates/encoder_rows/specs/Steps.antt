-- The effect of the steps of an encoder. This project's own.
use Rattle.std.specs.Prelude.{◌≡◌, ◌≤◌, ◌+◌, ℕ, ℤ, List, ◌++◌, length, Result, Ok, Err}
use Rattle.base_122.specs.declared.setting.Setting.{Setting}
use Rattle.raster_rows.specs.RowReads.{FirstInRange, IsFirstBad}
use Rattle.stream_defs.specs.Output.{output}
use Rattle.strip_coder.specs.Answers.{DoneFor}
use Rattle.strip_coder.specs.Rasters.{image_of}
use Rattle.strip_coder.specs.Works.{IsMadeFor}
use Rattle.strip_coder.specs.declared.encode.EncodeDone.{EncodeDone}
use Rattle.strip_coder.specs.declared.work.Work.{Work}
use Rattle.encoder_rows.specs.Room.{row_need, end_need}
use Rattle.encoder_rows.specs.Rows.{HasRows, ShowsRow}
use Rattle.encoder_rows.specs.declared.refusal.RowRefusal.{RowRefusal}
use Rattle.encoder_rows.specs.declared.refusal.RowRefusal.TheVariants.{BadPixel}

-- the row has the pixels of these octets, which are in range, or the first that isn't has this place and value
abbrev pub ReadsRow : {T : Type 0} → Setting → (octets : List ℕ) → (row : List ℤ) → Result T RowRefusal → Type 0
ReadsRow s octets row (Ok done) = FirstInRange s.depth s.signed octets s.width × ShowsRow s octets row
ReadsRow s octets row (Err (BadPixel column value)) = IsFirstBad s.depth s.signed octets column value
ReadsRow s octets row (Err other) = ⊥

-- the work has taken rows of some image, and their packets are given
pub record IsRunning (s : Setting) (w : Work) : Type 0 where
  pub taken : List ℕ
  pub given : List ℕ
  pub rows : HasRows s w.at.rows taken given w

-- the row was taken, and these packets are given for it, or its first value out of range has this place and value
abbrev pub TakesOctets : {T : Type 0} → Setting → (octets : List ℕ) → (old new : Work) → (packets : List ℕ) → Result T RowRefusal → Type 0
TakesOctets s octets old new packets (Ok done) =
    FirstInRange s.depth s.signed octets s.width × (length packets ≤ row_need s old.at.rows) × (new.at.rows ≡ old.at.rows + 1)
    × ((taken given : List ℕ) → HasRows s old.at.rows taken given old → HasRows s (old.at.rows + 1) (taken ++ octets) (given ++ packets) new)
TakesOctets s octets old new packets (Err (BadPixel column value)) = (new ≡ old) × IsFirstBad s.depth s.signed octets column value
TakesOctets s octets old new packets (Err other) = ⊥

-- these packets are given, and with them all packets of the image
pub record GivesRest (s : Setting) (old new : Work) (packets : List ℕ) (done : EncodeDone) : Type 0 where
  pub made : IsMadeFor s new
  pub fits : length packets ≤ end_need s old.at.rows
  pub all : (taken given : List ℕ) → HasRows s old.at.rows taken given old →
      (given ++ packets ≡ output s old.at.rows (image_of s taken)) × DoneFor s old.at.rows (image_of s taken) done
