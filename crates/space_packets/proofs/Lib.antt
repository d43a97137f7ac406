pub mod Whole
pub mod WholeCalls
pub mod SinkCalls
mod Buffers
mod Sound
mod MoreOctets
pub mod Intakes
pub mod StreamReads
pub mod Equations
pub mod Verdicts
