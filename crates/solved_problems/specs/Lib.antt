pub mod Promised
pub mod Solved
