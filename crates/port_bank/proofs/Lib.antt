pub mod BankLemmas
mod ItemLemmas
mod LaneBanks
mod LanePlaces
pub mod lemmas
mod PairLemmas
pub mod PlaceLemmas
