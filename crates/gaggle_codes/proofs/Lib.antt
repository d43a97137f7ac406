pub mod Names
pub mod Choosing
pub mod Chosen
pub mod Least
mod Sums
pub mod Places
pub mod Listing
pub mod ValueParts
pub mod TextBits
pub mod GaggleParts
mod Few
pub mod Setting
pub mod ScaledNumbers
pub mod NumbersRead
pub mod FormReads
pub mod ValueReads
pub mod GaggleReads
