pub mod Visits
pub mod Innermost
pub mod Parts
pub mod Loops
pub mod Layers
pub mod Found
pub mod Indexed
