-- The rows of a raster that a work took.
use Rattle.std.specs.Prelude.{◌≡◌, ◌<◌, ◌+◌, ◌-◌, ◌*◌, ◌==◌, ◌&&◌, nat_le, Bool, true, false, ℕ, ℤ, List, [], length}
use Rattle.port_122.specs.Outside.{Outside, Exchange, GivenBy, AtEnd}
use Rattle.base_122.specs.Ranges.{rows_range}
use Rattle.base_122.specs.Setting.{IsHeight}
use Rattle.wave_defs.specs.Held.{Agrees, signal}
use Rattle.base_122.specs.declared.setting.Setting.{Setting}
use Rattle.packet_defs.specs.Packets.{joined}
use Rattle.raster_rows.specs.declared.reading.RowFault.{RowFault}
use Rattle.raster_rows.specs.declared.reading.RowFault.TheVariants as row_faults
use Rattle.stream_defs.specs.SettledImages.{leading_packets}
use Rattle.strip_coder.specs.Plans.{tallest}
use Rattle.strip_coder.specs.declared.encode.EncodeFault.{EncodeFault}
use Rattle.strip_coder.specs.declared.encode.EncodeFault.TheVariants.{ReadFault, Short, BadPixel}
use Rattle.strip_coder.specs.declared.work.Work.{Work}
use Rattle.strip_coder.specs.Rasters.{row_length, image_of, AreInRange, given_for}
use Rattle.strip_coder.specs.Answers.{AsksInRange}
use Rattle.strip_coder.specs.Works.{Represents}
use Rattle.strip_coder.specs.Steps.{IsRowInRange}

-- the fault of the raster if a row has this fault and this number of octets was taken before
abbrev pub fault_after : ℕ → RowFault → EncodeFault
fault_after before row_faults.ReadFault = ReadFault
fault_after before (row_faults.Short octets) = Short (before + octets)
fault_after before (row_faults.BadPixel row column value) = BadPixel row column value

-- a fault of a row is the end of a raster whose rows are reported last: no octet of the row is there, and the rows before are enough
abbrev pub ends_here : Setting → (row : ℕ) → RowFault → Bool
ends_here s row row_faults.ReadFault = false
ends_here s row (row_faults.Short octets) = (s.rows == 0) && (nat_le rows_range.least row && (octets == 0))
ends_here s row (row_faults.BadPixel at column value) = false

-- a row that is short has less than all of its octets
abbrev pub ShortOf : RowFault → ℕ → Type 0
ShortOf (row_faults.Short octets) size = octets < size
ShortOf fault size = Unit {0}

-- the row is the last of the first k rows of a raster
pub record LastIsValid (s : Setting) (k : ℕ) (taken : List ℕ) (row : List ℤ) : Type 0 where
  pub in_range : IsRowInRange s row
  pub same : Agrees s.width (signal row) (image_of s taken (k - 1))

-- Since a start exactly the first k rows of a raster were taken, each value in range. The work represents them, and the packets of the
-- segments before the present one are given.
pub record HasArrived (s : Setting) (k : ℕ) (p q : Outside) (w : Work) : Type 0 where
  pub took : List ℕ
  pub whole : length took ≡ k * row_length s
  pub in_range : AreInRange s took (k * s.width)
  pub valid : Represents s k (image_of s took) w
  pub last : 0 < k → LastIsValid s k took w.row.items
  pub since : Exchange p q took (joined (leading_packets s (tallest s) (image_of s took) w.at.index)) [] (GivenBy (given_for s) took)
  pub asks : Exchange p q took (joined (leading_packets s (tallest s) (image_of s took) w.at.index)) [] (AsksInRange s took)

-- All rows of a raster were taken. If their number is reported last, the input has ended.
pub record HasAll (s : Setting) (p q : Outside) (w : Work) : Type 0 where
  pub height : IsHeight s w.at.rows
  pub arrived : HasArrived s w.at.rows p q w
  pub ended : s.rows ≡ 0 → AtEnd q

-- after k rows one more was taken, or these are all, and their number is reported last
abbrev pub TookOneMore : Bool → Setting → ℕ → Outside → Outside → Work → Type 0
TookOneMore true s k p q w = HasArrived s (k + 1) p q w
TookOneMore false s k p q w = (s.rows ≡ 0) × HasAll s p q w
