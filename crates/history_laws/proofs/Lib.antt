pub mod Appended
pub mod Legality
