pub mod Turns
pub mod AmongSigns
pub mod Opened
pub mod Selectors
pub mod Innermost
