pub mod Answers
pub mod Bytes
pub mod code
pub mod Lines
pub mod Names
pub mod Numbers
pub mod Places
pub mod Words
