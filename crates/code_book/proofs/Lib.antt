pub mod Rooms
pub mod Firsts
pub mod Checks
pub mod Clashes
pub mod Fillings
pub mod TablesIn
pub mod CodeFaults
pub mod BooksRead
