pub mod RangeChecks
pub mod GeometryRanges
pub mod SizeBounds
pub mod Shifts
pub mod ShiftLaws
