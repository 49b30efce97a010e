pub mod DigitLemmas
mod GivenLemmas
mod KeptLemmas
mod LawLemmas
pub mod lemmas
mod SayingLemmas
mod VersionLemmas
