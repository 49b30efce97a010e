pub mod Banks
pub mod Places
