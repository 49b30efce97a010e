pub mod Built
pub mod code
pub mod Plans
pub mod PortItems
