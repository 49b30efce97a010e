pub mod Cells
pub mod Feeds
pub mod Kinds
pub mod Turns
