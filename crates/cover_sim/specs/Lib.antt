pub mod code
pub mod Growth
pub mod Lines
pub mod Marks
