pub mod Bags
pub mod Better
pub mod code
pub mod Crossings
pub mod Refusals
