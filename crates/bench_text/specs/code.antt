pub mod Parts
pub mod Scans
pub mod Taking
