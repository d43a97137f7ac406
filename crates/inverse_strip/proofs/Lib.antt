pub mod RowLemmas
pub mod RingLemmas
pub mod LevelLemmas
pub mod StageLemmas
pub mod CellLemmas
pub mod StripLemmas
pub mod SampleLemmas
pub mod NextLemmas
pub mod SquareLemmas
mod ZeroRows
mod ZeroPairs
mod Bounds
mod PairLemmas
