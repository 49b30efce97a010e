pub mod AfterLemmas
pub mod CoreLemmas
pub mod lemmas
pub mod RunLemmas
pub mod StateLemmas
