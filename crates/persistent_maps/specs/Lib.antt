pub mod Nodes
pub mod Lookup
pub mod Maps
pub mod Gives
pub mod Keeps
pub mod Growth
