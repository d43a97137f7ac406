pub mod KeptLemmas
pub mod LevelLemmas
pub mod ChainLemmas
pub mod StripLemmas
pub mod CountLemmas
pub mod ShownLaws
pub mod SampleLemmas
pub mod NumberBounds
