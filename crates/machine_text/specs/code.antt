pub mod Digits
pub mod Given
pub mod Sayings
