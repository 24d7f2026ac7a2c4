mod Examples
pub mod Firsts
pub mod Linked
pub mod Names
pub mod Search
pub mod Small
