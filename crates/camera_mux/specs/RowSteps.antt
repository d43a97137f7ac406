-- The effect of a step that takes one row of a camera. This project's own.
use Rattle.std.specs.Prelude.{◌≡◌, ◌≢◌, ◌<◌, ◌≤◌, ◌+◌, ◌^◌, ℕ, ℤ, List, [], ◌++◌, length, take}
use Rattle.port_122.specs.Outside.{Outside, Exchange, AtEnd, NoRead, Rose}
use Rattle.base_122.specs.declared.setting.Setting.{Setting}
use Rattle.packet_defs.specs.Packets.{joined}
use Rattle.raster_rows.specs.Pixels.{pixel_at, whole_pixels}
use Rattle.raster_rows.specs.RowReads.{FirstInRange, InRow, IsFirstBad}
use Rattle.raster_rows.specs.declared.reading.RowFault.{RowFault}
use Rattle.raster_rows.specs.declared.reading.RowFault.TheVariants as row_faults
use Rattle.stream_defs.specs.Output.{image_packets, output, reports_last}
use Rattle.stream_defs.specs.SettledImages.{leading_packets, settled_in}
use Rattle.strip_coder.specs.declared.work.Work.{Work}
use Rattle.strip_coder.specs.Plans.{plan_of, tallest}
use Rattle.strip_coder.specs.Rasters.{row_length, image_of, settled_octets}
use Rattle.strip_coder.specs.Works.{HasTaken, FollowsRows, Represents}
use Rattle.strip_coder.specs.Steps.{Continues, IsRowInRange, RowIs, tall_blocks}
use Rattle.camera_mux.specs.declared.mux.MuxDone.{MuxDone}
use Rattle.camera_mux.specs.declared.mux.MuxFault.{MuxFault}
use Rattle.camera_mux.specs.declared.mux.MuxFault.TheVariants.{ReadFault, WriteFault, Short, Long, BadCamera, BadPixel}
use Rattle.camera_mux.specs.declared.camera_rows.Place.{Place}

-- the fault of a mux if a row has this fault
abbrev pub fault_of : Place → RowFault → MuxFault
fault_of place row_faults.ReadFault = ReadFault
fault_of place (row_faults.Short octets) = Short (place.octets + octets)
fault_of place (row_faults.BadPixel row column value) = BadPixel place.camera row column value

-- a row has fewer than 2 ^ 62 octets
abbrev pub ShortOf : RowFault → Type 0
ShortOf (row_faults.Short octets) = octets < 2 ^ 62
ShortOf fault = Unit {0}

-- the row of this number of an image has these octets
pub record HasRow (s : Setting) (x : ℕ → ℕ → ℤ) (k : ℕ) (got : List ℕ) : Type 0 where
  pub at : (column : ℕ) → column < s.width → pixel_at s.depth s.signed got column ≡ x k column

-- A whole row in range was taken.
pub record TakesOctets (s : Setting) (p q : Outside) (got : List ℕ) : Type 0 where
  pub since : Exchange p q got [] [] (InRow s.depth s.signed s.width got)
  pub whole : length got ≡ row_length s
  pub in_range : FirstInRange s.depth s.signed got s.width

-- Less than a row was taken, and each whole pixel is in range.
pub record LacksOctets (s : Setting) (p q : Outside) (got : List ℕ) : Type 0 where
  pub since : Exchange p q got [] [] (InRow s.depth s.signed s.width got)
  pub inside : length got < row_length s
  pub in_range : FirstInRange s.depth s.signed got (whole_pixels s.depth got)

-- ---- by reach

-- One more row was taken, and the packets of the segments were given that it settles by its reach.
pub record TakesCameraRow (s : Setting) (k : ℕ) (p q : Outside) (old new : Work) : Type 0 where
  pub between : Outside
  pub got : List ℕ
  pub octets : TakesOctets s p between got
  pub taken : HasTaken (plan_of s (tallest s)) (k + 1) new
  pub values : IsRowInRange s new.row.items
  pub row : (x : ℕ → ℕ → ℤ) → HasRow s x k got → RowIs s x k new
  pub faults : between.write_faults ≤ q.write_faults
  pub follows : (x : ℕ → ℕ → ℤ) → FollowsRows s x old → HasRow s x k got → FollowsRows s x new
  pub goes : (x : ℕ → ℕ → ℤ) → FollowsRows s x old → HasRow s x k got → Continues (plan_of s (tallest s)) (tall_blocks s x) old.at.index new.at.index between q

-- A write failed: a prefix of all these octets is written, of which some were written before.
pub record IsCut (before all : List ℕ) (p q : Outside) : Type 0 where
  pub gave : List ℕ
  pub out : Exchange p q [] gave [] NoRead
  pub some : ℕ
  pub prefix : before ++ gave ≡ take some all

pub record CutsCameraRow (s : Setting) (k : ℕ) (p q : Outside) (old : Work) : Type 0 where
  pub between : Outside
  pub got : List ℕ
  pub octets : TakesOctets s p between got
  pub rose : Rose between.write_faults q.write_faults
  pub cut : (x : ℕ → ℕ → ℤ) → FollowsRows s x old → HasRow s x k got →
      IsCut (joined (leading_packets s (tallest s) x old.at.index)) (joined (leading_packets s (tallest s) x (settled_in s (tallest s) (k + 1)))) between q

abbrev pub FailsInRow : Setting → (k : ℕ) → Place → (p q : Outside) → Work → MuxFault → Type 0
FailsInRow s k place p q old ReadFault = (got : List ℕ) × LacksOctets s p q got × Rose p.read_faults q.read_faults
FailsInRow s k place p q old (Short octets) = (got : List ℕ) × LacksOctets s p q got × AtEnd q × (octets ≡ place.octets + length got)
FailsInRow s k place p q old (BadPixel camera row column value) =
    (got : List ℕ) × Exchange p q got [] [] (InRow s.depth s.signed s.width got) × (length got ≤ row_length s) × (camera ≡ place.camera) × (row ≡ k)
    × IsFirstBad s.depth s.signed got column value
FailsInRow s k place p q old WriteFault = CutsCameraRow s k p q old
FailsInRow s k place p q old Long = ⊥
FailsInRow s k place p q old (BadCamera number camera) = ⊥

-- ---- all that it settles

-- what is done at a row of an image: all of it if the row is its last
pub record DoneAt (s : Setting) (x : ℕ → ℕ → ℤ) (rows : ℕ) (done : MuxDone) : Type 0 where
  pub last : rows ≡ s.rows → (done.packets ≡ length (image_packets (reports_last s) s x)) × (done.octets ≡ length (output s s.rows x))
  pub before : rows ≢ s.rows → (done.packets ≡ 0) × (done.octets ≡ 0)

-- One more row was taken after those of a raster, and the packets of the segments were given that it settles.
pub record GivesRow (s : Setting) (k : ℕ) (raster : List ℕ) (p q : Outside) (new : Work) (done : MuxDone) : Type 0 where
  pub between : Outside
  pub got : List ℕ
  pub octets : TakesOctets s p between got
  pub gave : List ℕ
  pub out : Exchange between q [] gave [] NoRead
  pub then_are : settled_octets s raster k ++ gave ≡ settled_octets s (raster ++ got) (k + 1)
  pub valid : k + 1 < s.rows → Represents s (k + 1) (image_of s (raster ++ got)) new
  pub done_is : DoneAt s (image_of s (raster ++ got)) (k + 1) done

pub record CutsRow (s : Setting) (k : ℕ) (raster : List ℕ) (p q : Outside) : Type 0 where
  pub between : Outside
  pub got : List ℕ
  pub octets : TakesOctets s p between got
  pub rose : Rose between.write_faults q.write_faults
  pub cut : IsCut (settled_octets s raster k) (settled_octets s (raster ++ got) (k + 1)) between q

abbrev pub FailsAtRow : Setting → (k : ℕ) (raster : List ℕ) → Place → (p q : Outside) → MuxFault → Type 0
FailsAtRow s k raster place p q ReadFault = (got : List ℕ) × LacksOctets s p q got × Rose p.read_faults q.read_faults
FailsAtRow s k raster place p q (Short octets) = (got : List ℕ) × LacksOctets s p q got × AtEnd q × (octets ≡ place.octets + length got)
FailsAtRow s k raster place p q (BadPixel camera row column value) =
    (got : List ℕ) × Exchange p q got [] [] (InRow s.depth s.signed s.width got) × (length got ≤ row_length s) × (camera ≡ place.camera) × (row ≡ k)
    × IsFirstBad s.depth s.signed got column value
FailsAtRow s k raster place p q WriteFault = CutsRow s k raster p q
FailsAtRow s k raster place p q Long = ⊥
FailsAtRow s k raster place p q (BadCamera number camera) = ⊥
