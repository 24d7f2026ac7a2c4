pub mod Units
pub mod TextLaws
