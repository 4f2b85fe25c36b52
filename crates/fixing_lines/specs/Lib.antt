pub mod Requests
pub mod Entries
