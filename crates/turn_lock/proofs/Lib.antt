pub mod Beginnings
pub mod Rosters
pub mod Changes
pub mod Keeps
pub mod Tells
pub mod Closing
