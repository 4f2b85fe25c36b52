pub mod Looking
pub mod Seating
pub mod Ended
