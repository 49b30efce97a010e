pub mod Folds
pub mod Gates
pub mod Kinds
pub mod Memory
pub mod MemoryLaws
pub mod Packed
pub mod Values
