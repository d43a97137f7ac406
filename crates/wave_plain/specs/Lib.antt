pub mod Images
pub mod ShownSamples
pub mod BlockRows
pub mod Laws
