-- A geometry that is known is one that an image can have. This project's own.
use Rattle.std.specs.Prelude.{◌≡◌, ◌&&◌, true, Some}
use Rattle.base_122.specs.Ranges.{IsGeometryInRange, IsWithin, rows_range}
use Rattle.base_122.specs.declared.geometry.Geometry.{Geometry}
use Rattle.segment_defs.specs.declared.head.SegmentHead.{SegmentHead}
use Rattle.packet_defs.specs.declared.ancillary.Ancillary.{Ancillary}
use Rattle.stream_defs.specs.declared.fate.FateState.{FateState}
use Rattle.stream_defs.specs.Agreement.{geometry_for, reported_height}

-- the geometry of this state, if there is one, is in range
pub record IsRanged (s : FateState) : Type 0 where
  pub geometry : (g : Geometry) → s.geometry ≡ Some g → IsGeometryInRange g

-- a height that a last header reports is in range
abbrev pub ReportsHeight : FateState → Ancillary → SegmentHead → Type 0
ReportsHeight s a head = (a.reported_last && head.last) ≡ true → IsWithin rows_range (reported_height (geometry_for s.geometry a head.image) a head)
