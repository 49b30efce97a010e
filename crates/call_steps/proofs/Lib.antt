mod ImageLemmas
pub mod lemmas
mod RefusedLemmas
mod SizeLemmas
mod TextLemmas
