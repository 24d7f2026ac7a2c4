pub mod Lookup
pub mod Arithmetic
