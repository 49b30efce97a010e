pub mod Made
pub mod Nodes
pub mod Places
pub mod Tables
pub mod Wires
