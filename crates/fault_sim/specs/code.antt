pub mod Faults
pub mod Groups
pub mod Lanes
pub mod Runs
