pub mod Masks
pub mod Merge
pub mod Shapes
