pub mod code
pub mod Core
pub mod Kept
pub mod Orders
pub mod CorePorts
