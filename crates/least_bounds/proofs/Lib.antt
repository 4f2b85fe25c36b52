pub mod Climbing
pub mod Descending
