pub mod Hierarchy
pub mod Resolved
