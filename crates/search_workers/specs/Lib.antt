pub mod Walks
pub mod Grown
pub mod Explorers
pub mod Searched
