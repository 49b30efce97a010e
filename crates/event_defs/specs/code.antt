pub mod Linked
pub mod Sources
