pub mod Core
pub mod Made
pub mod CorePorts
pub mod Stepped
