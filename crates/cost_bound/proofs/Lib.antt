pub mod Arriving
pub mod Summing
pub mod Ending
pub mod Passing
pub mod Walking
pub mod Bounding
