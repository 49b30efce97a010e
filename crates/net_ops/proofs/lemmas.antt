pub mod Waits
pub mod Writes
