mod Costs
mod CodedItems
mod Identifiers
pub mod CodeSearch
mod Words
mod WordPrefixes
