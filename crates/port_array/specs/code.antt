pub mod Acts
pub mod Lanes
pub mod Rows
