pub mod Taking
pub mod WritingLemmas
