pub mod Circle
pub mod Found
pub mod Walk
