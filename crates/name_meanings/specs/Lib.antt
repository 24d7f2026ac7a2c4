pub mod Own
pub mod Meanings
pub mod Tables
