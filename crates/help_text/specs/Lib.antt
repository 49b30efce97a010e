-- The texts of `help`.
pub mod Notes
pub mod Forms
pub mod Texts
