pub mod InForce
pub mod Reading
pub mod Filled
pub mod Taken
pub mod Writing
pub mod Laws
pub mod Agreement
