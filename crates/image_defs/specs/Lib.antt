pub mod Claimed
pub mod Frames
pub mod Matches
pub mod Places
pub mod Ports
pub mod Shows
pub mod Steps
pub mod WellFormed
