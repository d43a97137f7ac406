mod RowsIn
mod TextsRead
mod ListsMade
