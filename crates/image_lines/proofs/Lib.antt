pub mod FieldLemmas
pub mod HexLemmas
pub mod lemmas
pub mod LineLemmas
pub mod ReaderLemmas
pub mod TokenLemmas
pub mod WritingLemmas
