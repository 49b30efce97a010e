pub mod CrewLemmas
pub mod lemmas
pub mod LendLemmas
pub mod PhaseLemmas
pub mod SoloLemmas
pub mod StepLemmas
