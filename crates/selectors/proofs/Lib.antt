pub mod Same
pub mod Seen
pub mod Laws
mod Inserted
mod Entries
mod Collected
mod Filed
