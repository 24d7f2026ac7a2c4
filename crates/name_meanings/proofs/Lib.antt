pub mod Named
pub mod Fields
