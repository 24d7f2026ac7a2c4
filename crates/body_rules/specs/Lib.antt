pub mod Blocks
pub mod Jumps
pub mod Constructors
pub mod Declarations
pub mod Lists
pub mod Rules
pub mod Search
