pub mod lemmas
pub mod ListLemmas
pub mod PutLemmas
pub mod ReaderLemmas
pub mod UserLemmas
mod WordLemmas
