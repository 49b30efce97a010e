pub mod code
pub mod Forms
pub mod Ranges
pub mod Tokens
pub mod Words
