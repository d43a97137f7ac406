pub mod Sound
pub mod Tests
pub mod Reading
pub mod Filling
