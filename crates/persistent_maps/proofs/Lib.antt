mod Growing
mod Uniting
pub mod Giving
