pub mod Added
pub mod Owned
pub mod Releasing
