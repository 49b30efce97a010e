pub mod Acts
pub mod code
pub mod Kept
pub mod Lanes
