pub mod Declares
pub mod Programs
pub mod Prelude
pub mod Paths
pub mod Folders
pub mod Loading
pub mod First
pub mod Sooner
