pub mod FieldBits
pub mod WrittenParts
pub mod WrittenHeads
pub mod PuttingFields
