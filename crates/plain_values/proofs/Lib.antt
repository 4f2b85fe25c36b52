mod Digits
pub mod Added
pub mod Lists
