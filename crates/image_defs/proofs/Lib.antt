pub mod Example
pub mod lemmas
mod MatchExample
