pub mod EachLemmas
pub mod MatchKnown
