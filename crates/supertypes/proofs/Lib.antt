mod Climbing
mod Joining
mod Rising
pub mod Laws
