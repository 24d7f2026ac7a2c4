pub mod InPages
pub mod WorldFacts
pub mod Absent
pub mod Kept
pub mod SlotOrder
