pub mod Outside
pub mod Faults
pub mod Memory
pub mod Standard
pub mod Answers
pub mod Steady
