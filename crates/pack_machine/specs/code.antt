pub mod Crews
pub mod Dealt
pub mod Ends
pub mod Lines
