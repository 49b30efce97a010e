pub mod Enters
pub mod Kinds
pub mod Readers
pub mod Stops
