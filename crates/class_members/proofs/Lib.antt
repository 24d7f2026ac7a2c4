pub mod Constructed
mod Forwarded
mod Gathered
mod Owned
