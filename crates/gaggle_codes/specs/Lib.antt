pub mod Options
pub mod Written
pub mod GaggleBits
pub mod Given
pub mod Items
pub mod Cells
