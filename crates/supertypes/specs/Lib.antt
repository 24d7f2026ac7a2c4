pub mod Upward
pub mod Sets
pub mod Climb
pub mod Joined
