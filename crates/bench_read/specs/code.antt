pub mod Drafting
pub mod Drafts
pub mod GateLists
pub mod Making
pub mod Once
pub mod Placed
pub mod Storing
pub mod StuckLists
