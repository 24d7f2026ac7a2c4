pub mod Nodes
pub mod Threads
pub mod Calls
