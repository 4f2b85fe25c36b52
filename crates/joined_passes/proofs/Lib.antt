pub mod Owning
pub mod Joining
pub mod Ending
