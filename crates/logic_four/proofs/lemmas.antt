pub mod CodeLemmas
pub mod FoldLemmas
pub mod KindLemmas
pub mod MemoryLemmas
pub mod PackedLemmas
pub mod TestLemmas
