pub mod Came
pub mod Given
