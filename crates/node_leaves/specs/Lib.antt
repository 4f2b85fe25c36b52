pub mod Reckoned
pub mod Shown
