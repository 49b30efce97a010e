pub mod code
pub mod Refusal
