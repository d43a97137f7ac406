pub mod BandBlocks
pub mod RowGives
pub mod BlockPasses
pub mod RowsOut
mod RowsGathered
pub mod Heights
pub mod Ends
pub mod SameImages
