pub mod PlanLaws
mod SegmentRuns
pub mod SegmentTexts
pub mod SegmentCounts
pub mod SegmentSteps
mod PacketStretches
pub mod WorkStarts
mod BlockPuts
pub mod GatherSteps
pub mod RowGathers
pub mod RowPushes
pub mod PaddedRows
pub mod RowTakes
pub mod TailPushes
pub mod RowFinishes
mod DoneCounts
pub mod ImageEnds
pub mod SettledCounts
mod OtherHeights
pub mod RowsGiven
pub mod PrefixesGiven
pub mod RowsTakenLaws
pub mod RangeAsks
pub mod RowArrives
mod TallEnds
mod EncodeRuns
