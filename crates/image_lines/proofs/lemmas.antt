pub mod LawLemmas
pub mod SplitLemmas
