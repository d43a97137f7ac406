pub mod Marks
pub mod Dcs
pub mod Reach
pub mod Depths
