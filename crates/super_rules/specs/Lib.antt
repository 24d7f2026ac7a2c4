pub mod Calls
pub mod Takers
pub mod Rules
pub mod Tables
