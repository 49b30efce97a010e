-- What the words of a command line ask for.
pub mod Arguments
pub mod Settings
pub mod Topics
pub mod Forms
pub mod Uses
pub mod Asked
pub mod code
