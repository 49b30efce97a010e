pub mod code
pub mod Entries
pub mod Shelf
