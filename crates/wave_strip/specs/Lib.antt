pub mod Kept
pub mod Columns
pub mod Levels
pub mod Counts
pub mod Sizes
pub mod BlockRow
pub mod Strip
pub mod Samples
