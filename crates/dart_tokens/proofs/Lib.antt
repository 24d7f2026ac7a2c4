pub mod Digits
pub mod Stacks
pub mod Characters
pub mod Comments
pub mod Turns
pub mod Refused
