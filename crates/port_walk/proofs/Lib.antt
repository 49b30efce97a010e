pub mod BlockLemmas
mod CursorLemmas
mod KeptLemmas
pub mod lemmas
mod MoveLemmas
mod NextLemmas
mod RowLemmas
mod StopLemmas
mod WalkLemmas
