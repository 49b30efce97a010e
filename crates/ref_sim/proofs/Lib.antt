pub mod Along
pub mod CycleLemmas
pub mod Existence
pub mod lemmas
mod PrintLemmas
pub mod Uniqueness
