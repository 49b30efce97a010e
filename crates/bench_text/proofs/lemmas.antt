pub mod ByteLemmas
pub mod SpanLemmas
pub mod SpellingLemmas
