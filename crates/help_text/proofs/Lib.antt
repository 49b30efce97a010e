-- Lemmas on the texts.
mod FormLemmas
mod TextLemmas
