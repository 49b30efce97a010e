pub mod Exclusion
pub mod NumberLemmas
