mod CoreLemmas
mod LaneLemmas
pub mod NextLemmas
pub mod RunLemmas
pub mod StepLemmas
