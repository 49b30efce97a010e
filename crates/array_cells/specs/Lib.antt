pub mod code
pub mod Places
