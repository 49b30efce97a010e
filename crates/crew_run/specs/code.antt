pub mod Lending
pub mod Phases
