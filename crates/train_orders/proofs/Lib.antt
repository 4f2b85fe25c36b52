pub mod Ordered
pub mod Places
pub mod Searching
pub mod Stepping
