pub mod Observing
pub mod Runs
pub mod code
