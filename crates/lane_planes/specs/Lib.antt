pub mod code
pub mod Formula
pub mod Forms
pub mod Joins
pub mod Lanes
