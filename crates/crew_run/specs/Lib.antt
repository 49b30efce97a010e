pub mod code
pub mod Crews
pub mod Lending
pub mod Steps
pub mod Visits
