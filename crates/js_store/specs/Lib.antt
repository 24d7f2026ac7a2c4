pub mod Names
pub mod Values
pub mod Equality
pub mod Closure
pub mod Store
pub mod Scopes
pub mod Load
pub mod Host
