pub mod Limits
pub mod Lists
pub mod Parts
pub mod Text
pub mod Kept
pub mod Order
