pub mod Showing
pub mod Telling
pub mod Staying
pub mod Following
pub mod Splitting
pub mod Parting
pub mod Replaying
pub mod Helping
