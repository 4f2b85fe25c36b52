pub mod Listed
pub mod Beside
