pub mod RowTakes
pub mod LookWalks
pub mod LowBands
pub mod ImageLooks
pub mod Keeping
pub mod Written
pub mod GapParts
pub mod Listings
pub mod SomePackets
pub mod Containing
pub mod RectTests
pub mod RectRuns
pub mod RectCovers
pub mod RectReach
pub mod SameLost
mod WorkedRects
pub mod GapRows
pub mod GapRects
