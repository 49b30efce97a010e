pub mod Forms
pub mod Tokens
pub mod Words
