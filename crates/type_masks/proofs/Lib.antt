pub mod Sets
pub mod Ascending
