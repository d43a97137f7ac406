mod Awaiting
pub mod Open
