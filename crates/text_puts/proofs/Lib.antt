pub mod Counting
pub mod Puttings
pub mod Writings
