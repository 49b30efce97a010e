pub mod CountLemmas
pub mod ExistLemmas
pub mod lemmas
pub mod LinkLemmas
pub mod SourceLemmas
pub mod StuckLemmas
pub mod SumLemmas
