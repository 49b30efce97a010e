pub mod Claims
pub mod Chosen
pub mod Compiled
pub mod Designs
pub mod code
