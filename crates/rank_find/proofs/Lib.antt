pub mod CircleLemmas
pub mod Existence
pub mod lemmas
pub mod RunLemmas
pub mod StepLemmas
pub mod WalkLemmas
