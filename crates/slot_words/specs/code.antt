pub mod Opening
pub mod PackedWords
pub mod PlainWords
pub mod Plays
