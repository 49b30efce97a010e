pub mod Differences
pub mod Forms
pub mod Links
pub mod Memories
pub mod OnePorts
pub mod Shapes
