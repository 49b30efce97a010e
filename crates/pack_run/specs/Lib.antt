pub mod code
pub mod Core
pub mod Kept
pub mod Pairs
pub mod Same
pub mod Steps
