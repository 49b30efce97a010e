mod ChainLemmas
mod GateLemmas
pub mod lemmas
mod NodeLemmas
mod ReferenceLemmas
mod RunLemmas
mod SameLemmas
pub mod SeenLemmas
mod StepLemmas
