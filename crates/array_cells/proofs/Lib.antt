pub mod AddressLemmas
pub mod PlaceLemmas
pub mod SheetLemmas
pub mod WordLemmas
