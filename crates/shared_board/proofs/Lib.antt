pub mod Going
pub mod LineCounts
pub mod Joining
pub mod Owing
pub mod Entries
pub mod Running
pub mod Onward
