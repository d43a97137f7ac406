mod LevelLemmas
mod ForwardLemmas
mod JoinLemmas
mod InverseLemmas
pub mod RoundTripLaws
pub mod BlockRowLaws
