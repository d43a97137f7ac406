pub mod Sizes
pub mod Profile
pub mod Weights
pub mod Ranges
pub mod Setting
pub mod Restored
