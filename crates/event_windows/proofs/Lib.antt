pub mod Numbering
pub mod Fixing
