pub mod Places
pub mod Rams
pub mod Sequences
pub mod States
pub mod Values
