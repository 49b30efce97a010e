pub mod LaneTexts
pub mod Lanes
pub mod OrderLines
pub mod Orders
pub mod Repeats
pub mod Rows
pub mod Stimuli
pub mod code
