pub mod CursorLemmas
pub mod HostLemmas
pub mod RowLemmas
