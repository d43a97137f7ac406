pub mod BlockRows
pub mod Widened
