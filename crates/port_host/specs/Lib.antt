pub mod code
pub mod Kept
pub mod Rows
