pub mod ReadingLemmas
pub mod StepLemmas
