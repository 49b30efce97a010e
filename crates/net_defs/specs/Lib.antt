pub mod Canonical
pub mod Loops
pub mod Reference
pub mod Steps
pub mod Time
pub mod Trace
pub mod Valid
