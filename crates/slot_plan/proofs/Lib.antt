pub mod BoardLemmas
pub mod EarlyLemmas
pub mod PlaceLemmas
pub mod ScanLemmas
pub mod TableLemmas
