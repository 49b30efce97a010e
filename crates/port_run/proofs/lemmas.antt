pub mod NextLemmas
pub mod StepLemmas
