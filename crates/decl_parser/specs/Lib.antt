pub mod Bodies
pub mod Classes
pub mod Members
pub mod Files
pub mod Parsed
pub mod ParsingLaws
pub mod LookAhead
pub mod Example
