pub mod FaultLemmas
pub mod lemmas
pub mod WordLemmas
