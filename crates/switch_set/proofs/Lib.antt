pub mod lemmas
pub mod LinkLemmas
pub mod OrderLemmas
pub mod SwitchLemmas
