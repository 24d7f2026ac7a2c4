pub mod Scanning
pub mod Classes
pub mod Taking
pub mod Parsing
pub mod Nests
pub mod Faults
