pub mod Laws
pub mod Passes
pub mod Sound
pub mod Words
