mod Ends
mod HalfLemmas
mod Values
pub mod Fits
