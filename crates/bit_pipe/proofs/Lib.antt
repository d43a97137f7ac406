pub mod Giving
pub mod Putting
pub mod Closing
pub mod PuttingEach
pub mod Taking
pub mod ItemReading
pub mod OneItem
pub mod OctetSteps
mod BitSteps
mod ZeroSteps
mod Ending
mod PieceSteps
pub mod WordOctets
mod PrefixBits
mod PrefixTaking
pub mod WindowBits
pub mod Endings
pub mod ScriptReading
