pub mod MatchLemmas
pub mod PlaceLemmas
pub mod ValueLemmas
