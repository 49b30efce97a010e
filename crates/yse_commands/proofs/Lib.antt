mod EndedLemmas
pub mod EndingLemmas
mod GateLemmas
mod LaneLemmas
pub mod lemmas
mod ShownLemmas
mod TraceLemmas
