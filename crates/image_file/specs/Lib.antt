pub mod Drafts
pub mod Files
pub mod Ranges
pub mod Reading
pub mod code
