pub mod FormulaLemmas
pub mod JoinLemmas
pub mod lemmas
pub mod WordLemmas
