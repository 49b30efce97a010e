mod CutLemmas
mod LaneLoopLemmas
mod LaneTextLemmas
mod LawLemmas
pub mod lemmas
mod OrderLemmas
mod ReadingLemmas
mod RepeatLemmas
mod RowLemmas
