pub mod Above
pub mod Timed
