pub mod code
pub mod Faults
pub mod Lines
pub mod Verdicts
