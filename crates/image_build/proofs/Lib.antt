pub mod BuiltLemmas
mod ClaimLemmas
pub mod GrowLemmas
mod ItemLemmas
mod LinkLemmas
mod MemberLemmas
pub mod MemoryExists
pub mod MemoryLemmas
pub mod OneImage
pub mod PlacedLemmas
pub mod PlannedLemmas
pub mod PortLemmas
mod SourceLemmas
pub mod TaskLemmas
mod WorkLemmas
