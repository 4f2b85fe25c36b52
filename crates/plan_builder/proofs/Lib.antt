pub mod Counting
pub mod Blocking
pub mod Leaving
pub mod Ordering
pub mod Listing
pub mod Places
pub mod Showing
