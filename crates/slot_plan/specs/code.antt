pub mod Boards
pub mod Early
pub mod Plannings
pub mod UsedTables
