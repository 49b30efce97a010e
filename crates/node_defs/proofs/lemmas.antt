pub mod EarlierLemmas
pub mod GroupLemmas
pub mod LevelLemmas
pub mod MemberLemmas
pub mod NameLemmas
