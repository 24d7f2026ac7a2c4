mod Searches
mod Falling
pub mod Supers
pub mod FaultParts
pub mod Breaks
