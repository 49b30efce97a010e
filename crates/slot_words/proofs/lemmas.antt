pub mod SoundLemmas
pub mod TimeLemmas
