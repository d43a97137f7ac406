pub mod Filling
mod PartLists
mod HeadTests
mod WholeHeads
mod HeadTaken
mod SameParts
mod HeadLengths
pub mod Agreements
pub mod Texts
mod FirstPart
mod WrittenBare
mod HeldTexts
mod BareHeld
pub mod FurtherOctets
