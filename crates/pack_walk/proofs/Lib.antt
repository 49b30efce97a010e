pub mod CellLemmas
pub mod CursorLemmas
pub mod FeedLemmas
pub mod HostLemmas
mod PlacedLemmas
