pub mod Closing
pub mod Ending
pub mod Halving
pub mod Seating
