pub mod Lookup
pub mod Tables
pub mod Keys
pub mod Origins
pub mod Filling
