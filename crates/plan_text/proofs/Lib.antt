pub mod FigureLemmas
pub mod lemmas
