pub mod Packets
pub mod Tests
pub mod Reading
pub mod Streams
pub mod Written
pub mod Laws
