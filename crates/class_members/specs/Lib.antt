pub mod Program
pub mod Constructions
pub mod Members
pub mod Owners
pub mod Steps
