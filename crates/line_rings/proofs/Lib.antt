pub mod Tables
mod Filling
