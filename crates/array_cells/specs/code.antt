pub mod Places
pub mod Sheets
