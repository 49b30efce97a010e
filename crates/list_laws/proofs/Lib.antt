pub mod Decidable
pub mod Differ
pub mod Maps
pub mod Members
pub mod Options
pub mod Places
pub mod Ranges
pub mod Tests
