pub mod code
pub mod Lanes
pub mod Ops
pub mod Places
pub mod Rams
pub mod Schedules
pub mod States
pub mod Tables
