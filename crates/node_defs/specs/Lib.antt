pub mod Groups
pub mod Items
pub mod Order
pub mod Takes
pub mod Values
pub mod WellFormed
