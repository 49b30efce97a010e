pub mod Cells
pub mod code
pub mod Kept
pub mod Placed
pub mod Ready
pub mod Turns
