mod OneBit
mod Planes
mod DepthCells
mod Parts
pub mod DcCells
mod Lows
mod Restored
pub mod DcReads
pub mod DepthReads
