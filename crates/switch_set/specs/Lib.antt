pub mod code
pub mod Links
pub mod Order
