pub mod Dealt
pub mod Moves
pub mod Shown
