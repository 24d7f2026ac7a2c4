pub mod Lists
pub mod Units
pub mod KeptLemmas
pub mod Tidied
