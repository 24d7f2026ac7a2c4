pub mod Outside
pub mod InMemory
pub mod Places
pub mod Room
