pub mod Lists
pub mod UserRows
pub mod Words
