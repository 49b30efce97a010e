pub mod ReadingLemmas
pub mod WorkLemmas
pub mod DraftLemmas
pub mod RangeLemmas
pub mod FoundLemmas
pub mod LeadLemmas
pub mod AgainLemmas
pub mod WritingLemmas
