pub mod Pairs
pub mod Picks
pub mod Behind
