pub mod Told
pub mod Agreed
