pub mod Tells
pub mod Reading
pub mod Texts
pub mod First
pub mod Files
pub mod Numbers
pub mod Asking
pub mod Progress
