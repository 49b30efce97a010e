pub mod code
pub mod Ended
pub mod Given
pub mod Law
pub mod Sequel
