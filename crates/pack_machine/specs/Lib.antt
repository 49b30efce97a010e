pub mod code
pub mod Lines
