pub mod Ports
pub mod Room
pub mod Rows
pub mod Answers
pub mod Steps
