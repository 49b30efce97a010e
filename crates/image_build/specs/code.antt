pub mod Layouts
pub mod Plans
