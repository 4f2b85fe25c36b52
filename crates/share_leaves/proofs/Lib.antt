pub mod Basing
pub mod Listing
pub mod Beside
pub mod Shortened
