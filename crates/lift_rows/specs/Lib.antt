pub mod Halves
pub mod Back
