pub mod lemmas
mod PartLemmas
pub mod PlaceLemmas
pub mod TokenLemmas
