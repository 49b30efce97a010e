pub mod Check
pub mod code
