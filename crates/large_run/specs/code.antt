pub mod Designs
pub mod Rows
pub mod Summaries
