pub mod Selectors
pub mod Tables
pub mod Collecting
