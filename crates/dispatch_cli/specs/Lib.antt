pub mod Stops
pub mod Feeds
pub mod Rolls
