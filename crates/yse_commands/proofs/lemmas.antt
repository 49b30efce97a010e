pub mod AnswerLemmas
pub mod FollowLemmas
pub mod ReachLemmas
pub mod TracedLemmas
pub mod VisitedLemmas
