pub mod Program
pub mod Meaning
pub mod Scope
pub mod Reader
pub mod Runner
