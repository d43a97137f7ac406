pub mod Joins
pub mod Prefixes
pub mod Splits
pub mod ReadBack
pub mod Equations
