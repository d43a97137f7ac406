pub mod Pixels
pub mod Made
pub mod Ends
pub mod Padding
pub mod RowReads
pub mod Pieces
pub mod Gathered
