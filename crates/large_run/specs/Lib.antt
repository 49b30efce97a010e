pub mod code
pub mod Draws
pub mod Large
pub mod Runs
pub mod Setting
pub mod Summaries
