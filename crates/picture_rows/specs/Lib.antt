pub mod Pictures
pub mod Prefixes
pub mod Steps
