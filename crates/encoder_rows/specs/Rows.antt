-- The rows that an encoder has taken of an image, and the packets that it has given for them. This project's own.
use Rattle.std.specs.Prelude.{◌≡◌, ◌<◌, ◌≤◌, ◌+◌, ◌*◌, ℕ, ℤ, IsTrue, List, length, vec_len}
use Rattle.wave_defs.specs.Held.{signal}
use Rattle.base_122.specs.Ranges.{IsInRange, IsWithin, rows_range}
use Rattle.base_122.specs.Setting.{IsHeight}
use Rattle.base_122.specs.Sizes.{padded_size}
use Rattle.base_122.specs.declared.setting.Setting.{Setting}
use Rattle.packet_defs.specs.Packets.{joined}
use Rattle.plane_defs.specs.Codes.{is_book_sound}
use Rattle.raster_rows.specs.Pixels.{pixel_at}
use Rattle.strip_decoder.specs.Images.{ArePixels}
use Rattle.stream_defs.specs.Output.{output}
use Rattle.stream_defs.specs.SettledImages.{leading_packets}
use Rattle.strip_coder.specs.Plans.{MoreMayArrive, plan_of, tallest}
use Rattle.strip_coder.specs.Rasters.{row_length, image_of, AreInRange, given_for}
use Rattle.strip_coder.specs.RowsIn.{LastIsValid}
use Rattle.strip_coder.specs.Steps.{RowIs}
use Rattle.strip_coder.specs.Works.{FollowsRows, Represents}
use Rattle.strip_coder.specs.declared.work.Work.{Work}
use Rattle.encoder_rows.specs.Room.{row_need, end_need, row_room, end_room, image_room}
use Rattle.encoder_rows.specs.declared.encoder.Encoder.{Encoder}
use Rattle.encoder_rows.specs.declared.progress.Progress.{Progress}

-- The octets are those of the first k rows of a raster, no more than an image can have, each value in range. The work represents these
-- rows, and the packets of the
-- segments before the present one are given.
pub record HasRows (s : Setting) (k : ℕ) (taken given : List ℕ) (w : Work) : Type 0 where
  pub most : k ≤ tallest s
  pub whole : length taken ≡ k * row_length s
  pub in_range : AreInRange s taken (k * s.width)
  pub valid : Represents s k (image_of s taken) w
  pub last : 0 < k → LastIsValid s k taken w.row.items
  pub given_are : given ≡ joined (leading_packets s (tallest s) (image_of s taken) w.at.index)

-- an encoder has taken these octets of its present image, and given these
abbrev pub HasTakenRows : (taken given : List ℕ) → Encoder → Type 0
HasTakenRows taken given e = HasRows e.setting e.work.at.rows taken given e.work

-- what an encoder counts of its present image
abbrev pub progress_of : Encoder → Progress
progress_of e = record { rows = e.work.at.rows; segments = e.work.at.index; packets = e.work.packets.packets; octets = e.work.packets.octets }

-- the counts of rows and octets are those of what was taken and given
pub record Counts (e : Encoder) (p : Progress) : Type 0 where
  pub taken : (taken given : List ℕ) → HasTakenRows taken given e → length taken ≡ p.rows * row_length e.setting
  pub given : (taken given : List ℕ) → HasTakenRows taken given e → length given ≡ p.octets

-- an encoder's setting can be coded: its fields are in range, its book is sound, and it has ten weights
pub record IsUsable (s : Setting) : Type 0 where
  pub in_range : IsInRange s
  pub sound : IsTrue (is_book_sound s.book)
  pub weights : length s.weights.shifts ≡ 10

-- An image is open, of which some rows were taken. The second row has the width of the first, and the room is enough for each call.
pub record IsOpen (e : Encoder) : Type 0 where
  pub usable : IsUsable e.setting
  pub row : vec_len e.row ≡ padded_size e.setting.width
  pub room : e.packets.size ≡ end_room e.setting + 1
  pub taken : List ℕ
  pub given : List ℕ
  pub rows : HasTakenRows taken given e

-- a row has the pixels of these octets
pub record ShowsRow (s : Setting) (octets : List ℕ) (row : List ℤ) : Type 0 where
  pub at : (column : ℕ) → column < s.width → signal row column ≡ pixel_at s.depth s.signed octets column

-- a work follows some image, whose next row is in its row
pub record HasNext (s : Setting) (w : Work) : Type 0 where
  pub image : ℕ → ℕ → ℤ
  pub follows : FollowsRows s image w
  pub row : RowIs s image w.at.rows w
  pub pixels : ArePixels s (tallest s) image

-- what an encoder has given is exactly what `encode` has given after the same octets, as long as it isn't known that the rows are all
pub record GivesAsEncode : Type 0 where
  pub same : (taken given : List ℕ) (e : Encoder) → IsInRange e.setting → HasTakenRows taken given e →
      MoreMayArrive (plan_of e.setting (tallest e.setting)) e.work.at.rows → given ≡ given_for e.setting taken

-- the packets of an image whose pixels are in range fit the room that is computed for them
pub record OutputsFit : Type 0 where
  pub fits : (s : Setting) (rows : ℕ) (x : ℕ → ℕ → ℤ) → IsUsable s → IsHeight s rows → ArePixels s rows x → length (output s rows x) ≤ image_room s rows

-- the rooms that are computed for each row and each end are enough for any
pub record RoomsAreEnough : Type 0 where
  pub rows : (s : Setting) (k : ℕ) → IsInRange s → row_need s k ≤ row_room s
  pub ends : (s : Setting) (k : ℕ) → IsInRange s → IsWithin rows_range k → end_need s k ≤ end_room s
