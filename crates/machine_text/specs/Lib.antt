pub mod code
pub mod Limits
pub mod Machines
pub mod Quantities
pub mod Settings
