pub mod Passing
pub mod Dividing
pub mod Placing
mod PutBack
mod Filling
mod Squares
