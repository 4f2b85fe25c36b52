pub mod Arrivals
pub mod Shortened
pub mod Bounds
