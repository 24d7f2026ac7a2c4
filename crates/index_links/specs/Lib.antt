pub mod Lists
pub mod Arrays
pub mod Inside
