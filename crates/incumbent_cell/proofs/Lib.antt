pub mod Shares
pub mod Keeps
pub mod Codes
