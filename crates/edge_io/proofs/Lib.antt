pub mod lemmas
pub mod ReadingLemmas
