pub mod Endings
pub mod Ends
pub mod Printed
