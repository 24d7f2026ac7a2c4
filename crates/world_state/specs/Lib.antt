pub mod Facts
pub mod Worlds
pub mod Pages
pub mod Kept
pub mod Reads
pub mod Impacts
