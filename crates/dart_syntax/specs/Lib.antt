pub mod Rules
pub mod Table
pub mod Gaps
pub mod Texts
pub mod Tokens
pub mod Faults
pub mod TokenLaws
pub mod Reader
