pub mod Words
pub mod Tokens
pub mod Grammar
pub mod Spelling
pub mod Text
pub mod Places
pub mod SpellingLaws
pub mod Prints
