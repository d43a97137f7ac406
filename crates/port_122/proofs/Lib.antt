pub mod Stretches
pub mod ReadCalls
pub mod IfKnown
pub mod Parts
pub mod MemoryReads
pub mod BothAsked
