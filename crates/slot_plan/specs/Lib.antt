pub mod code
pub mod Refusals
pub mod UsedTables
