pub mod Ops
pub mod Tasks
