pub mod Ranges
pub mod Numbers
pub mod PixelPlaces
pub mod PixelLists
mod Plain
mod Gathering
pub mod PixelLaws
pub mod RasterLaws
pub mod PieceRuns
pub mod RowRuns
pub mod RowSteps
pub mod RowsTaken
pub mod MadeLaws
pub mod OctetLaws
