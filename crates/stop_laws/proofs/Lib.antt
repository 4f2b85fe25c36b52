pub mod Covering
pub mod Stopping
